-- An activation is given back when its function is left.
use Rattle.std.proofs.Common.{◌≡◌, ℕ, ◌+◌, ◌-◌, ◌^◌, ◌<◌, List, Result, Ok, Err, refl, sym, ap, ◌∙◌, arith}
use Rattle.std.specs.Prelude.{OnOk}
use Rattle.srmt_base.specs.declared.budgets.Budget.{Budget}
use Rattle.srmt_base.specs.declared.budgets.Budgets.{Budgets}
use Rattle.srmt_base.specs.declared.event.Event.{Event}
use Rattle.srmt_base.specs.declared.part.Part.{Part}
use Rattle.srmt_base.specs.declared.part.Part.TheVariants.{Protected, Binary}
use Rattle.srmt_base.specs.Budgets.{budget_of, with_budget, after_leave, leave_of}
use Rattle.source_meaning.specs.World.{Gives, and_then, ◌>>◌, becomes}
use Rattle.source_meaning.specs.Places.{all_end}
use Rattle.source_meaning.specs.Calls.{numbers_below}
use Rattle.c_meaning.specs.declared.setting.At.{At}
use Rattle.c_meaning.specs.declared.store.Stored.{Stored}
use Rattle.c_meaning.specs.Runs.{setting_of, world_of, Leaves, turns_of, depths_of}

pub on-ok : {A E : Type 0} {P : Type 0} (r : Result A E) → P → OnOk r P
on-ok (Ok a) h = h
on-ok (Err e) h = tt

pub depth-within : (part : Part) (b : Budgets) (o : Budget) → o ≡ budget_of part b → depths_of b < 2 ^ 32 - 1 → o.depth < 2 ^ 32 - 1
depth-within Protected b o is low = let same : o.depth ≡ b.protected.depth = ap (λ (x : Budget). x.depth) is in omega arith
depth-within Binary b o is low = let same : o.depth ≡ b.binary.depth = ap (λ (x : Budget). x.depth) is in omega arith

-- what the code makes of the budgets
module _ (part : Part) (b after : Budgets) (o l : Budget) (o-is : o ≡ budget_of part b) (l-is : l ≡ after_leave o)
    (after-is : after ≡ with_budget part l b) where
  pub given-back : after ≡ leave_of part b
  given-back = after-is ∙ ap (λ (x : Budget). with_budget part x b) (l-is ∙ ap after_leave o-is)

pub same-turns : (part : Part) (b : Budgets) → turns_of (leave_of part b) ≡ turns_of b
same-turns Protected b = refl
same-turns Binary b = refl

pub more-depth : (part : Part) (b : Budgets) → depths_of (leave_of part b) ≡ depths_of b + 1
more-depth Protected b = omega arith
more-depth Binary b = omega arith

pub left-gives : (at : At) (old mid : Stored) (locals : List ℕ) (after : Budgets)
    → ((bound : ℕ) → Leaves (all_end (setting_of bound at) (numbers_below at.current.function.now.parameters)) old mid)
    → after ≡ leave_of at.current.part mid.budgets → (bound : ℕ) (es : List Event)
    → (all_end (setting_of bound at) (numbers_below at.current.function.now.parameters)
    >> (becomes (λ w. record w { locals = locals }) >> becomes (λ w. record w { budgets = leave_of at.current.part w.budgets }))) (world_of old es)
    ≡ Gives tt (world_of (record mid { budgets = after; locals = locals }) es)
left-gives at old mid locals after ends after-is bound es =
    ap (λ o. and_then o (λ _. becomes (λ w. record w { locals = locals }) >> becomes (λ w. record w { budgets = leave_of at.current.part w.budgets })))
    (ends bound es)
    ∙ ap (λ (b : Budgets). Gives tt (world_of (record mid { budgets = b; locals = locals }) es)) (sym after-is)
