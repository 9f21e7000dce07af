-- How more than two things that follow one another are grouped does not matter.
use Rattle.std.proofs.Common.{◌≡◌, ℕ, List, refl, ap, ◌∙◌, Result, Ok, Err}
use Rattle.srmt_base.specs.declared.budgets.Budgets.{Budgets}
use Rattle.srmt_base.specs.declared.trap.Trap.{Trap}
use Rattle.source_meaning.specs.World.{World, Doing, and_then, ◌>>=◌, ◌>>◌, becomes, computed, spends}
use Rattle.source_meaning.specs.Places.{Setting, all_begin, all_end}
use Rattle.source_meaning.specs.Statements.{Completion, in_block}
use Rattle.source_meaning.proofs.Associates.{then_then, then_same}

-- a block and what follows it, one after another
pub block_then : {A : Type 0} (s : Setting) (locals : List ℕ) (body : Doing Completion) (k : Completion → Doing A) (w : World)
    → (in_block s locals body >>= k) w ≡ (all_begin s locals >> (body >>= (λ c. all_end s locals >> k c))) w
block_then s locals body k w =
    then_then (all_begin s locals) _ k w
    ∙ then_same (all_begin s locals) _ _
    (λ begun u. then_then body _ k u ∙ then_same body _ _ (λ c v. then_then (all_end s locals) _ k v) u) w

-- what stands first, before three that follow
pub thrice_then : {A B C D : Type 0} (m : Doing A) (f : A → Doing B) (g : B → Doing C) (k : C → Doing D) (w : World)
    → (((m >>= f) >>= g) >>= k) w ≡ (m >>= (λ a. (f a >>= g) >>= k)) w
thrice_then m f g k w = ap (λ o. and_then o k) (then_then m f g w) ∙ then_then m (λ a. f a >>= g) k w

-- what follows a change of the budgets may be anything that comes to the same wherever only the budgets are others
pub spends_same : {A : Type 0} (line : ℕ) (change : Budgets → Result Budgets Trap) (f g : Unit {0} → Doing A) (w : World)
    → ((b : Budgets) → f tt (record w { budgets = b }) ≡ g tt (record w { budgets = b }))
    → (spends line change >>= f) w ≡ (spends line change >>= g) w
spends_same line change f g w h = by_result (change w.budgets)
  where
    by_result : (r : Result Budgets Trap)
        → ((computed line r >>= (λ b. becomes (λ u. record u { budgets = b }))) >>= f) w
        ≡ ((computed line r >>= (λ b. becomes (λ u. record u { budgets = b }))) >>= g) w
    by_result (Ok b) = h b
    by_result (Err trap) = refl
