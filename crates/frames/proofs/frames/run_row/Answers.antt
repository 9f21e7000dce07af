use Rattle.std.proofs.Common.{◌≡◌, ◌-◌, ◌++◌, length, take, drop, refl, ap, ◌∙◌, arith}
use Rattle.std.proofs.lemmas.List.{take_all, length-drop, length-take-le}
use Rattle.frames.proofs.Rows.{row_back}
use borrow.Rule.Slice.PartMut.{post_of}
use Rattle.frames.proofs.frames.run_row.Goals as goal

pub returns-clause-comes : goal.returns-clause-comes
returns-clause-comes c s is =
    let xs = c.deref_mut.result.now in
    let base = c.args.base in
    let own = c.run_code.new.registers in
    let part : length (take (length xs - base) (drop base xs)) ≡ length xs - base = length-take-le (length xs - base) (drop base xs) (omega (arith, length-drop base xs)) in
    let new = take c.args.registers.now.len (take base xs ++ (own ++ post_of base (length xs - base) xs) ++ drop (length (take base xs ++ (own ++ post_of base (length xs - base) xs))) c.args.registers.now.items) in
    let long : length own ≡ length xs - base = c.run_code.ensures.count ∙ part in
    let back : drop base new ≡ own =
    row_back base (length xs - base) c.args.registers.now.len xs c.args.registers.now.items _ own c.deref_mut.ensures.value (omega (arith, c.requires.base, c.deref_mut.ensures.len)) refl c.args.registers.now.ok.0 long in
    let old : take (length xs - base) (drop base xs) ≡ drop base c.args.registers.now.items =
    take_all (length xs - base) (drop base xs) (omega (arith, length-drop base xs)) ∙ ap (drop base) c.deref_mut.ensures.value in
    let h = c.run_code.ensures.comes s is in
    rw (back, ← old) h
