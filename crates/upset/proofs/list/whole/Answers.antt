use Rattle.std.proofs.Common.{◌≡◌, ◌<◌, ◌≤◌, ◌==◌, ◌∙◌, sym, ap, subst, ℕ, List, [], ◌∷◌, ◌++◌, length, Some, None, true, false, arith}
use Rattle.std.specs.Prelude.{codes}
use Rattle.std.proofs.lemmas.Grind.{common_steps}
use Rattle.std.proofs.lemmas.List.{nil_from_length}
use Rattle.std.proofs.lemmas.Bool.{eqb-true, both_ways}
use Rattle.upset.specs.declared.upset.Upset.{Upset}
use Rattle.upset.specs.Reading as reading
use Rattle.upset.specs.Reading.{Reads}
use Rattle.upset.proofs.Upsets.{literal-is, upset-long}
use Rattle.upset.proofs.Listing.{Read, none-left, may-not, ended, stuck, further}
use Rattle.upset.proofs.list.whole.Goals as goal

pub returns-in_default-clause-bad : goal.returns-in_default-clause-bad
returns-in_default-clause-bad c =
    let e : reading.upset c.loop-next.rest.now ≡ None = grind (arith, common_steps) in
    λ refused us reads. none-left c.args.text.now c.loop-next.list.items c.loop-next.last c.loop-next.rest.now c.loop-next.invariant e us reads

pub returns-then-not-may_follow-clause-bad : goal.returns-then-not-may_follow-clause-bad
returns-then-not-may_follow-clause-bad c =
    let e : reading.upset c.loop-next.rest.now ≡ Some (c.in-Some.next, c.in-Some.after.now) = grind (arith, common_steps) in
    let no : reading.may_follow c.loop-next.last c.in-Some.next ≡ false = grind (arith, common_steps) in
    λ refused us reads. may-not c.args.text.now c.loop-next.list.items c.loop-next.last c.loop-next.rest.now c.loop-next.invariant c.in-Some.next c.in-Some.after.now e no us reads

pub returns-then-is_empty-clause-found : goal.returns-then-is_empty-clause-found
returns-then-is_empty-clause-found c =
    let e : reading.upset c.loop-next.rest.now ≡ Some (c.in-Some.next, c.in-Some.after.now) = grind (arith, common_steps) in
    let may : reading.may_follow c.loop-next.last c.in-Some.next ≡ true = sym c.may_follow.ensures ∙ c.if-not-may_follow.false in
    let nil : c.in-Some.after.now ≡ [] = nil_from_length _ (eqb-true _ _ (sym c.is_empty.ensures ∙ c.if-is_empty.true)) in
    let items : c.push.new.self.items ≡ c.loop-next.list.items ++ (c.in-Some.next ∷ []) = grind (arith, common_steps) in
    subst (Reads None c.args.text.now) (sym items)
    (ended c.args.text.now c.loop-next.list.items c.loop-next.last c.loop-next.rest.now c.loop-next.invariant c.in-Some.next (e ∙ ap (λ (a : List ℕ). Some (c.in-Some.next, a)) nil) may)

pub loop-next-smaller : goal.loop-next-smaller
loop-next-smaller c =
    let e : reading.upset c.loop-next.rest.now ≡ Some (c.in-Some.next, c.in-Some.after.now) = grind (arith, common_steps) in
    let comma : reading.literal (codes ",") c.in-Some.after.now ≡ Some c.in-Some-literal.more.now = grind (arith, common_steps) in
    let is : c.in-Some.after.now ≡ 44 ∷ c.in-Some-literal.more.now = literal-is (codes ",") c.in-Some.after.now c.in-Some-literal.more.now comma in
    let long : length c.in-Some.after.now ≤ length c.loop-next.rest.now = upset-long c.loop-next.rest.now c.in-Some.next c.in-Some.after.now e in
    let same : length c.in-Some.after.now ≡ length (44 ∷ c.in-Some-literal.more.now) = ap length is in
    let shorter : length c.in-Some-literal.more.now < length c.loop-next.rest.now = omega (arith, long, same) in
    shorter

pub loop-next-preserved : goal.loop-next-preserved
loop-next-preserved c =
    let e : reading.upset c.loop-next.rest.now ≡ Some (c.in-Some.next, c.in-Some.after.now) = grind (arith, common_steps) in
    let may : reading.may_follow c.loop-next.last c.in-Some.next ≡ true = sym c.may_follow.ensures ∙ c.if-not-may_follow.false in
    let comma : reading.literal (codes ",") c.in-Some.after.now ≡ Some c.in-Some-literal.more.now = grind (arith, common_steps) in
    let is : c.in-Some.after.now ≡ 44 ∷ c.in-Some-literal.more.now = literal-is (codes ",") c.in-Some.after.now c.in-Some-literal.more.now comma in
    let items : c.push.new.self.items ≡ c.loop-next.list.items ++ (c.in-Some.next ∷ []) = grind (arith, common_steps) in
    subst (λ (have : List Upset). Read c.args.text.now have (Some c.in-Some.next) c.in-Some-literal.more.now) (sym items)
    (further c.args.text.now c.loop-next.list.items c.loop-next.last c.loop-next.rest.now c.loop-next.invariant c.in-Some.next c.in-Some-literal.more.now
    (e ∙ ap (λ (a : List ℕ). Some (c.in-Some.next, a)) is) may)

pub returns-in-None-clause-bad : goal.returns-in-None-clause-bad
returns-in-None-clause-bad c =
    let e : reading.upset c.loop-next.rest.now ≡ Some (c.in-Some.next, c.in-Some.after.now) = grind (arith, common_steps) in
    let none : reading.literal (codes ",") c.in-Some.after.now ≡ None = grind (arith, common_steps) in
    let some : c.in-Some.after.now ≡ [] → ⊥ =
    λ nil. both_ways (length c.in-Some.after.now == 0) (sym c.is_empty.ensures ∙ c.if-is_empty.false) (ap (λ (x : List ℕ). length x == 0) nil) in
    λ refused us reads. stuck c.args.text.now c.loop-next.list.items c.loop-next.last c.loop-next.rest.now c.loop-next.invariant c.in-Some.next c.in-Some.after.now e some none us reads
