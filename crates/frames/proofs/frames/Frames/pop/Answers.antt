use Rattle.std.proofs.Common.{◌≡◌, ◌++◌, ◌∷◌, [], List, length, subst, vec_capacity}
use Rattle.std.specs.Prelude.{reverse}
use Rattle.std.proofs.lemmas.List.{reverse-append}
use Rattle.frames.specs.declared.frames.Line.{Line}
use Rattle.frames.specs.Kept.{AreKept, AreStacked}
use Rattle.frames.proofs.Rows.{popped-rows, kept_popped}
use Rattle.frames.proofs.frames.Frames.pop.Goals as goal

pub invariant_of-self : goal.invariant_of-self
invariant_of-self c =
    let s = c.self.inside in
    let caller = c.in-Some.caller in
    let items : s.below.items ≡ c.pop.new.self.items ++ caller ∷ [] = c.in-Some.ensures.items in
    let k : AreKept s.room s.registers.items s.objects.items s.top (c.pop.new.self.items ++ caller ∷ []) s.budgets (vec_capacity s.registers) (vec_capacity s.objects) (vec_capacity s.below) =
    subst (λ (ls : List Line). AreKept s.room s.registers.items s.objects.items s.top ls s.budgets (vec_capacity s.registers) (vec_capacity s.objects) (vec_capacity s.below)) items c.self.invariant in
    let h = kept_popped s.room s.registers.items s.objects.items s.top caller c.pop.new.self.items s.budgets _ _ _ k in
    rw (c.truncate.ensures.items, c.truncate-2.ensures.items, c.truncate.ensures.capacity, c.truncate-2.ensures.capacity, c.in-Some.ensures.capacity) h

pub returns-clause-machine : goal.returns-clause-machine
returns-clause-machine c =
    let s = c.self.inside in
    let caller = c.in-Some.caller in
    let items : s.below.items ≡ c.pop.new.self.items ++ caller ∷ [] = c.in-Some.ensures.items in
    let laid : AreStacked (length s.registers.items) (length s.objects.items) (s.top ∷ reverse (c.pop.new.self.items ++ caller ∷ [])) =
    subst (λ (ls : List Line). AreStacked (length s.registers.items) (length s.objects.items) (s.top ∷ reverse ls)) items c.self.invariant.laid in
    rw (← c.self.view_is, items, c.truncate.ensures.items, c.truncate-2.ensures.items, reverse-append) (popped-rows s.registers.items s.objects.items s.top caller c.pop.new.self.items s.budgets laid)
