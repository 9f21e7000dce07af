-- What a construct costs: events and turns together.
use Rattle.std.proofs.Common.{ℕ, ◌+◌, ◌*◌, ◌≤◌, Bool, true, false, [], ◌∷◌, length, subst, sym, Result, Ok, Err, inl, inr, arith}
use Rattle.std.proofs.lemmas.List.{length-append}
use Rattle.srmt_base.specs.declared.event.Event.{Event}
use Rattle.srmt_base.specs.declared.part.Part.{Part}
use Rattle.srmt_base.specs.declared.part.Part.TheVariants.{Protected, Binary}
use Rattle.srmt_base.specs.declared.trap.Trap.{Trap}
use Rattle.srmt_base.specs.Memory.{Memory}
use Rattle.srmt_base.specs.Budgets.{turn_of, enter_of, leave_of}
use Rattle.source_meaning.specs.World.{World, Outcome, Gives, Ends, Doing, and_then, ◌>>=◌, pure, either, computed, becomes, remembers, spends, happens}
use Rattle.source_meaning.specs.BudgetLaws.{turns_left, TakesTurn, TakesEntry}
use Rattle.source_meaning.proofs.BudgetsExact.{takes_turn, takes_entry}

-- a turn pays for as many events as a source has bytes
abbrev pub held : World → ℕ
held w = length w.events + 1048576 * turns_left w

abbrev pub Costs : {A : Type 0} → ℕ → Outcome A → Type 0
Costs most (Gives a w) = held w ≤ most
Costs most (Ends end events) = length events ≤ most

abbrev pub CostsAtMost : {A : Type 0} → ℕ → Doing A → Type 0
CostsAtMost k m = (w : World) → Costs (held w + k) (m w)

then_of : {A B : Type 0} (most l : ℕ) (o : Outcome A) (f : A → Doing B) → Costs most o → ((a : A) → CostsAtMost l (f a)) → Costs (most + l) (and_then o f)
then_of {A} {B} most l (Gives a w) f h k = more (f a w) (k a w)
  where
    more : (o : Outcome B) → Costs (held w + l) o → Costs (most + l) o
    more (Gives b u) z = omega (arith, h, z)
    more (Ends end events) z = omega (arith, h, z)
then_of most l (Ends end events) f h k = omega (arith, h)

outcome_wider : {A : Type 0} (b c : ℕ) (o : Outcome A) → b ≤ c → Costs b o → Costs c o
outcome_wider b c (Gives a w) h k = omega (arith, h, k)
outcome_wider b c (Ends end events) h k = omega (arith, h, k)

pub cost_wider : {A : Type 0} (k l : ℕ) (m : Doing A) → k ≤ l → CostsAtMost k m → CostsAtMost l m
cost_wider k l m h c w = outcome_wider (held w + k) (held w + l) (m w) (omega (arith, h)) (c w)

pub then_costs : {A B : Type 0} (k l : ℕ) (m : Doing A) (f : A → Doing B) → CostsAtMost k m → ((a : A) → CostsAtMost l (f a)) → CostsAtMost (k + l) (m >>= f)
then_costs k l m f h j w =
    outcome_wider (held w + k + l) (held w + (k + l)) (and_then (m w) f) (omega arith) (then_of (held w + k) l (m w) f (h w) j)

-- one after the other, where the last costs nothing
pub then_free : {A B : Type 0} (k : ℕ) (m : Doing A) (f : A → Doing B) → CostsAtMost k m → ((a : A) → CostsAtMost 0 (f a)) → CostsAtMost k (m >>= f)
then_free k m f h j = cost_wider (k + 0) k (m >>= f) (omega arith) (then_costs k 0 m f h j)

pub either_costs : {A : Type 0} (k l : ℕ) (test : Bool) (m n : Doing A) → CostsAtMost k m → CostsAtMost l n → CostsAtMost (k + l) (either test m n)
either_costs k l true m n h j = cost_wider k (k + l) m (omega arith) h
either_costs k l false m n h j = cost_wider l (k + l) n (omega arith) j

pub pure_costs : {A : Type 0} (a : A) → CostsAtMost 0 (pure a)
pure_costs a w = omega arith

pub computed_costs : {A : Type 0} (line : ℕ) (r : Result A Trap) → CostsAtMost 0 (computed line r)
computed_costs line (Ok a) w = omega arith
computed_costs line (Err trap) w = omega arith

pub happens_costs : (event : Event) → CostsAtMost 1 (happens event)
happens_costs event w = omega (arith, length-append w.events (event ∷ []))

pub remembers_costs : (line : ℕ) (change : Memory → Result Memory Trap) → CostsAtMost 0 (remembers line change)
remembers_costs line change w = by_result (change w.memory)
  where
    by_result : (r : Result Memory Trap) → Costs (held w + 0) (and_then (computed line r w) (λ memory. becomes (λ w. record w { memory = memory })))
    by_result (Ok memory) = omega arith
    by_result (Err trap) = omega arith

-- a turn pays for what follows
Paid : World → Outcome (Unit {0}) → Type 0
Paid w (Gives done after) = held after + 1048576 ≤ held w
Paid w (Ends end events) = length events ≤ held w

turn_pays : (part : Part) (line : ℕ) (w : World) → TakesTurn part line w → Paid w (spends line (turn_of part) w)
unfolding Paid
turn_pays Protected line w (inl h) = subst (Paid w) (sym h.1) (omega arith)
turn_pays Protected line w (inr h) = subst (Paid w) (sym h.1) (omega (arith, h.0))
turn_pays Binary line w (inl h) = subst (Paid w) (sym h.1) (omega arith)
turn_pays Binary line w (inr h) = subst (Paid w) (sym h.1) (omega (arith, h.0))

entry_pays : (part : Part) (line : ℕ) (w : World) → TakesEntry part line w → Paid w (spends line (enter_of part) w)
unfolding Paid
entry_pays Protected line w (inl h) = subst (Paid w) (sym h.1) (omega arith)
entry_pays Protected line w (inr (inl h)) = subst (Paid w) (sym h.2) (omega arith)
entry_pays Protected line w (inr (inr h)) = subst (Paid w) (sym h.2) (omega (arith, h.1))
entry_pays Binary line w (inl h) = subst (Paid w) (sym h.1) (omega arith)
entry_pays Binary line w (inr (inl h)) = subst (Paid w) (sym h.2) (omega arith)
entry_pays Binary line w (inr (inr h)) = subst (Paid w) (sym h.2) (omega (arith, h.1))

paid_then : {A : Type 0} (k : ℕ) (w : World) (o : Outcome (Unit {0})) (f : Unit {0} → Doing A) → k ≤ 1048576 → Paid w o
    → ((done : Unit {0}) → CostsAtMost k (f done)) → Costs (held w + 0) (and_then o f)
unfolding Paid
paid_then k w (Gives done after) f low h c = outcome_wider (held after + k) (held w + 0) (f done after) (omega (arith, h, low)) (c done after)
paid_then k w (Ends end events) f low h c = omega (arith, h)

pub turn_then : {A : Type 0} (k line : ℕ) (part : Part) (f : Unit {0} → Doing A) → k ≤ 1048576 → ((done : Unit {0}) → CostsAtMost k (f done))
    → CostsAtMost 0 (spends line (turn_of part) >>= f)
turn_then k line part f low c w = paid_then k w (spends line (turn_of part) w) f low (turn_pays part line w (takes_turn part line w)) c

pub entry_then : {A : Type 0} (k line : ℕ) (part : Part) (f : Unit {0} → Doing A) → k ≤ 1048576 → ((done : Unit {0}) → CostsAtMost k (f done))
    → CostsAtMost 0 (spends line (enter_of part) >>= f)
entry_then k line part f low c w = paid_then k w (spends line (enter_of part) w) f low (entry_pays part line w (takes_entry part line w)) c

pub leave_costs : (part : Part) → CostsAtMost 0 (becomes (λ w. record w { budgets = leave_of part w.budgets }))
leave_costs Protected w = omega arith
leave_costs Binary w = omega arith
