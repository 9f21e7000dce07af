use Rattle.std.proofs.Common.{ℕ, List, ◌≡◌, ◌-◌, ◌++◌, length, take, drop, refl, sym, ap, subst, ◌∙◌, arith}
use Rattle.std.specs.Prelude.{All}
use Rattle.std.proofs.lemmas.List.{take_all, length-drop, length-take-le}
use Rattle.mid_code.specs.Fits.{IsValue}
use Rattle.frames.specs.Copied.{CanCopyAll, CopiesNone}
use Rattle.frames.proofs.Rows.{row_back}
use borrow.Rule.Slice.PartMut.{post_of}
use Rattle.frames.proofs.frames.copy_row.Goals as goal

pub run_copied-requires-clause-can : goal.run_copied-requires-clause-can
run_copied-requires-clause-can c =
    let xs = c.deref_mut.result.now in
    let base = c.args.base in
    let old : take (length xs - base) (drop base xs) ≡ drop base c.args.registers.now.items =
    take_all (length xs - base) (drop base xs) (omega (arith, length-drop base xs)) ∙ ap (drop base) c.deref_mut.ensures.value in
    subst (CanCopyAll c.args.side c.args.pair.now c.args.number) (sym (ap length old)) c.requires.can

pub run_copied-requires-clause-small : goal.run_copied-requires-clause-small
run_copied-requires-clause-small c =
    let xs = c.deref_mut.result.now in
    let base = c.args.base in
    let old : take (length xs - base) (drop base xs) ≡ drop base c.args.registers.now.items =
    take_all (length xs - base) (drop base xs) (omega (arith, length-drop base xs)) ∙ ap (drop base) c.deref_mut.ensures.value in
    subst (All IsValue) (sym old) c.requires.small

pub returns-clause-copies : goal.returns-clause-copies
returns-clause-copies c =
    let xs = c.deref_mut.result.now in
    let base = c.args.base in
    let own = c.run_copied.new.registers in
    let part : length (take (length xs - base) (drop base xs)) ≡ length xs - base = length-take-le (length xs - base) (drop base xs) (omega (arith, length-drop base xs)) in
    let new = take c.args.registers.now.len (take base xs ++ (own ++ post_of base (length xs - base) xs) ++ drop (length (take base xs ++ (own ++ post_of base (length xs - base) xs))) c.args.registers.now.items) in
    let long : length own ≡ length xs - base = c.run_copied.ensures.kept.count ∙ part in
    let back : drop base new ≡ own =
    row_back base (length xs - base) c.args.registers.now.len xs c.args.registers.now.items _ own c.deref_mut.ensures.value (omega (arith, c.requires.base, c.deref_mut.ensures.len)) refl c.args.registers.now.ok.0 long in
    let old : take (length xs - base) (drop base xs) ≡ drop base c.args.registers.now.items =
    take_all (length xs - base) (drop base xs) (omega (arith, length-drop base xs)) ∙ ap (drop base) c.deref_mut.ensures.value in
    let h = c.run_copied.ensures.copies in
    rw (back, ← old) h

pub returns-clause-whole : goal.returns-clause-whole
returns-clause-whole c few =
    let xs = c.deref_mut.result.now in
    let base = c.args.base in
    let own = c.run_copied.new.registers in
    let part : length (take (length xs - base) (drop base xs)) ≡ length xs - base = length-take-le (length xs - base) (drop base xs) (omega (arith, length-drop base xs)) in
    let new = take c.args.registers.now.len (take base xs ++ (own ++ post_of base (length xs - base) xs) ++ drop (length (take base xs ++ (own ++ post_of base (length xs - base) xs))) c.args.registers.now.items) in
    let long : length own ≡ length xs - base = c.run_copied.ensures.kept.count ∙ part in
    let back : drop base new ≡ own =
    row_back base (length xs - base) c.args.registers.now.len xs c.args.registers.now.items _ own c.deref_mut.ensures.value (omega (arith, c.requires.base, c.deref_mut.ensures.len)) refl c.args.registers.now.ok.0 long in
    subst (λ (rs : List ℕ). CopiesNone c.args.side c.args.pair.now c.args.number rs c.run_copied.result.stand) (sym back) (c.run_copied.ensures.whole few)

pub returns-clause-each : goal.returns-clause-each
returns-clause-each c =
    let xs = c.deref_mut.result.now in
    let base = c.args.base in
    let own = c.run_copied.new.registers in
    let part : length (take (length xs - base) (drop base xs)) ≡ length xs - base = length-take-le (length xs - base) (drop base xs) (omega (arith, length-drop base xs)) in
    let new = take c.args.registers.now.len (take base xs ++ (own ++ post_of base (length xs - base) xs) ++ drop (length (take base xs ++ (own ++ post_of base (length xs - base) xs))) c.args.registers.now.items) in
    let long : length own ≡ length xs - base = c.run_copied.ensures.kept.count ∙ part in
    let back : drop base new ≡ own =
    row_back base (length xs - base) c.args.registers.now.len xs c.args.registers.now.items _ own c.deref_mut.ensures.value (omega (arith, c.requires.base, c.deref_mut.ensures.len)) refl c.args.registers.now.ok.0 long in
    subst (All IsValue) (sym back) c.run_copied.ensures.kept.each
