-- Two runs come to the same where the turns left are within a bound, and leave no more turns.
use Rattle.std.proofs.Common.{◌≡◌, ℕ, zero, suc, ◌+◌, ◌-◌, ◌==◌, ◌≤◌, Bool, true, false, refl, subst, Result, Ok, Err, arith}
use Rattle.std.specs.Prelude.{if◌then◌else◌}
use Rattle.std.proofs.lemmas.Bool.{true≢false}
use Rattle.srmt_base.specs.declared.budgets.Budgets.{Budgets}
use Rattle.srmt_base.specs.declared.part.Part.{Part}
use Rattle.srmt_base.specs.declared.part.Part.TheVariants.{Protected, Binary}
use Rattle.srmt_base.specs.declared.trap.Trap.{Trap}
use Rattle.srmt_base.specs.declared.trap.Trap.TheVariants.{Turns, Depth}
use Rattle.srmt_base.specs.Memory.{Memory}
use Rattle.srmt_base.specs.Budgets.{spent, with_result, turn_of, enter_of, leave_of}
use Rattle.source_meaning.specs.World.{World, Outcome, Gives, Ends, Doing, and_then, ◌>>=◌, pure, becomes, either, computed, remembers, spends}
use Rattle.source_meaning.specs.BudgetLaws.{turns_left}

abbrev pub Within : {A : Type 0} → ℕ → Outcome A → Type 0
Within b (Gives a w) = turns_left w ≤ b
Within b (Ends end events) = Unit {0}

-- from at most b turns left the two come to the same, with at most c turns left
abbrev pub Agree : {A : Type 0} → ℕ → ℕ → Doing A → Doing A → Type 0
Agree b c m n = (w : World) → turns_left w ≤ b → (m w ≡ n w) × Within c (m w)

-- one that keeps the turns left within each bound
abbrev pub Keeps : {A : Type 0} → Doing A → Type 0
Keeps m = (b : ℕ) → Agree b b m m

outcomes_agree : {A B : Type 0} (b c : ℕ) (o : Outcome A) (f g : A → Doing B) → Within b o → ((a : A) → Agree b c (f a) (g a))
    → (and_then o f ≡ and_then o g) × Within c (and_then o f)
outcomes_agree b c (Gives a w) f g h k = k a w h
outcomes_agree b c (Ends end events) f g h k = (refl, tt)

pub then_agree : {A B : Type 0} (b c d : ℕ) (m n : Doing A) (f g : A → Doing B) → Agree b c m n → ((a : A) → Agree c d (f a) (g a))
    → Agree b d (m >>= f) (n >>= g)
then_agree b c d m n f g h k w low =
    let one = h w low in
    let two = outcomes_agree c d (m w) f g one.1 k in
    (subst (λ o. and_then (m w) f ≡ and_then o g) one.0 two.0, two.1)

pub either_agree : {A : Type 0} (b c : ℕ) (test : Bool) (m m' n n' : Doing A) → Agree b c m m' → Agree b c n n' → Agree b c (either test m n) (either test m' n')
either_agree b c true m m' n n' h k = h
either_agree b c false m m' n n' h k = k

outcome_wider : {A : Type 0} (b c : ℕ) (o : Outcome A) → b ≤ c → Within b o → Within c o
outcome_wider b c (Gives a w) h k = omega (arith, h, k)
outcome_wider b c (Ends end events) h k = tt

pub wider : {A : Type 0} (b c : ℕ) (m n : Doing A) → b ≤ c → Agree b b m n → Agree b c m n
wider b c m n h k w low = ((k w low).0, outcome_wider b c (m w) h (k w low).1)

pub pure_keeps : {A : Type 0} (a : A) → Keeps (pure a)
pure_keeps a b w low = (refl, low)

pub computed_keeps : {A : Type 0} (line : ℕ) (r : Result A Trap) → Keeps (computed line r)
computed_keeps line (Ok a) b w low = (refl, low)
computed_keeps line (Err trap) b w low = (refl, tt)

pub remembers_keeps : (line : ℕ) (change : Memory → Result Memory Trap) → Keeps (remembers line change)
remembers_keeps line change b w low = by_result (change w.memory)
  where
    by_result : (r : Result Memory Trap) →
        (and_then (computed line r w) (λ memory. becomes (λ w. record w { memory = memory }))
        ≡ and_then (computed line r w) (λ memory. becomes (λ w. record w { memory = memory })))
        × Within b (and_then (computed line r w) (λ memory. becomes (λ w. record w { memory = memory })))
    by_result (Ok memory) = (refl, low)
    by_result (Err trap) = (refl, tt)

-- what a budget gives takes a turn
TakesOne : Part → ℕ → Budgets → Result Budgets Trap → Type 0
TakesOne part b budgets (Ok next) = next.protected.turns + next.binary.turns ≤ b
TakesOne part b budgets (Err trap) = Unit {0}

IsRefused : Result Budgets Trap → Type 0
IsRefused (Ok next) = ⊥
IsRefused (Err trap) = Unit {0}

budgets_after : (line b : ℕ) (part : Part) (w : World) (r : Result Budgets Trap) → TakesOne part b w.budgets r
    → Within b (and_then (computed line r w) (λ budgets. becomes (λ w. record w { budgets = budgets })))
unfolding TakesOne
budgets_after line b part w (Ok next) h = h
budgets_after line b part w (Err trap) h = tt

turn_takes : (b : ℕ) (part : Part) (budgets : Budgets) → budgets.protected.turns + budgets.binary.turns ≤ suc b → TakesOne part b budgets (turn_of part budgets)
unfolding TakesOne
turn_takes b Protected budgets low =
    elim (budgets.protected.turns == 0) as (λ t. budgets.protected.turns == 0 ≡ t → TakesOne Protected b budgets (with_result Protected budgets (if t then Err Turns else Ok (record (budgets.protected) { turns = budgets.protected.turns - 1 })))) [
      | true ↦ λ e. tt
      | false ↦ λ e. more budgets.protected.turns e low
    ] refl
  where
    more : (t : ℕ) → t == 0 ≡ false → t + budgets.binary.turns ≤ suc b → t - 1 + budgets.binary.turns ≤ b
    more zero e low = absurd (true≢false e)
    more (suc t) e low = omega (arith, low)
turn_takes b Binary budgets low =
    elim (budgets.binary.turns == 0) as (λ t. budgets.binary.turns == 0 ≡ t → TakesOne Binary b budgets (with_result Binary budgets (if t then Err Turns else Ok (record (budgets.binary) { turns = budgets.binary.turns - 1 })))) [
      | true ↦ λ e. tt
      | false ↦ λ e. more budgets.binary.turns e low
    ] refl
  where
    more : (t : ℕ) → t == 0 ≡ false → budgets.protected.turns + t ≤ suc b → budgets.protected.turns + (t - 1) ≤ b
    more zero e low = absurd (true≢false e)
    more (suc t) e low = omega (arith, low)

enter_takes : (b : ℕ) (part : Part) (budgets : Budgets) → budgets.protected.turns + budgets.binary.turns ≤ suc b → TakesOne part b budgets (enter_of part budgets)
unfolding TakesOne
enter_takes b Protected budgets low =
    elim (budgets.protected.depth == 0) as (λ d. TakesOne Protected b budgets (with_result Protected budgets (if d then Err Depth else if budgets.protected.turns == 0 then Err Turns else Ok (spent budgets.protected)))) [
      | true ↦ tt
      | false ↦ elim (budgets.protected.turns == 0) as (λ t. budgets.protected.turns == 0 ≡ t → TakesOne Protected b budgets (with_result Protected budgets (if t then Err Turns else Ok (spent budgets.protected)))) [
        | true ↦ λ e. tt
        | false ↦ λ e. more budgets.protected.turns e low
      ] refl
    ]
  where
    more : (t : ℕ) → t == 0 ≡ false → t + budgets.binary.turns ≤ suc b → t - 1 + budgets.binary.turns ≤ b
    more zero e low = absurd (true≢false e)
    more (suc t) e low = omega (arith, low)
enter_takes b Binary budgets low =
    elim (budgets.binary.depth == 0) as (λ d. TakesOne Binary b budgets (with_result Binary budgets (if d then Err Depth else if budgets.binary.turns == 0 then Err Turns else Ok (spent budgets.binary)))) [
      | true ↦ tt
      | false ↦ elim (budgets.binary.turns == 0) as (λ t. budgets.binary.turns == 0 ≡ t → TakesOne Binary b budgets (with_result Binary budgets (if t then Err Turns else Ok (spent budgets.binary)))) [
        | true ↦ λ e. tt
        | false ↦ λ e. more budgets.binary.turns e low
      ] refl
    ]
  where
    more : (t : ℕ) → t == 0 ≡ false → budgets.protected.turns + t ≤ suc b → budgets.protected.turns + (t - 1) ≤ b
    more zero e low = absurd (true≢false e)
    more (suc t) e low = omega (arith, low)

turn_refused : (part : Part) (budgets : Budgets) → budgets.protected.turns + budgets.binary.turns ≤ 0 → IsRefused (turn_of part budgets)
unfolding IsRefused
turn_refused Protected budgets low = at_none budgets.protected.turns low
  where
    at_none : (t : ℕ) → t + budgets.binary.turns ≤ 0 → IsRefused (with_result Protected budgets (if t == 0 then Err Turns else Ok (record (budgets.protected) { turns = budgets.protected.turns - 1 })))
    at_none zero low = tt
    at_none (suc t) low = absurd (omega (arith, low))
turn_refused Binary budgets low = at_none budgets.binary.turns low
  where
    at_none : (t : ℕ) → budgets.protected.turns + t ≤ 0 → IsRefused (with_result Binary budgets (if t == 0 then Err Turns else Ok (record (budgets.binary) { turns = budgets.binary.turns - 1 })))
    at_none zero low = tt
    at_none (suc t) low = absurd (omega (arith, low))

enter_refused : (part : Part) (budgets : Budgets) → budgets.protected.turns + budgets.binary.turns ≤ 0 → IsRefused (enter_of part budgets)
unfolding IsRefused
enter_refused Protected budgets low = at_none (budgets.protected.depth == 0) budgets.protected.turns low
  where
    at_none : (d : Bool) (t : ℕ) → t + budgets.binary.turns ≤ 0 → IsRefused (with_result Protected budgets (if d then Err Depth else if t == 0 then Err Turns else Ok (spent budgets.protected)))
    at_none true t low = tt
    at_none false zero low = tt
    at_none false (suc t) low = absurd (omega (arith, low))
enter_refused Binary budgets low = at_none (budgets.binary.depth == 0) budgets.binary.turns low
  where
    at_none : (d : Bool) (t : ℕ) → budgets.protected.turns + t ≤ 0 → IsRefused (with_result Binary budgets (if d then Err Depth else if t == 0 then Err Turns else Ok (spent budgets.binary)))
    at_none true t low = tt
    at_none false zero low = tt
    at_none false (suc t) low = absurd (omega (arith, low))

-- where nothing is left what follows does not matter
refused_agree : {B : Type 0} (line c : ℕ) (w : World) (r : Result Budgets Trap) (f g : Unit {0} → Doing B) → IsRefused r →
    (and_then (and_then (computed line r w) (λ budgets. becomes (λ w. record w { budgets = budgets }))) f
    ≡ and_then (and_then (computed line r w) (λ budgets. becomes (λ w. record w { budgets = budgets }))) g)
    × Within c (and_then (and_then (computed line r w) (λ budgets. becomes (λ w. record w { budgets = budgets }))) f)
unfolding IsRefused
refused_agree line c w (Ok next) f g h = absurd h
refused_agree line c w (Err trap) f g h = (refl, tt)

pub no_turn : {B : Type 0} (line c : ℕ) (part : Part) (f g : Unit {0} → Doing B) → Agree 0 c (spends line (turn_of part) >>= f) (spends line (turn_of part) >>= g)
no_turn line c part f g w low = refused_agree line c w (turn_of part w.budgets) f g (turn_refused part w.budgets low)

pub no_entry : {B : Type 0} (line c : ℕ) (part : Part) (f g : Unit {0} → Doing B) → Agree 0 c (spends line (enter_of part) >>= f) (spends line (enter_of part) >>= g)
no_entry line c part f g w low = refused_agree line c w (enter_of part w.budgets) f g (enter_refused part w.budgets low)

pub turn_agrees : (line b : ℕ) (part : Part) → Agree (suc b) b (spends line (turn_of part)) (spends line (turn_of part))
turn_agrees line b part w low = (refl, budgets_after line b part w (turn_of part w.budgets) (turn_takes b part w.budgets low))

pub entry_agrees : (line b : ℕ) (part : Part) → Agree (suc b) b (spends line (enter_of part)) (spends line (enter_of part))
entry_agrees line b part w low = (refl, budgets_after line b part w (enter_of part w.budgets) (enter_takes b part w.budgets low))

pub leave_keeps : (part : Part) → Keeps (becomes (λ w. record w { budgets = leave_of part w.budgets }))
leave_keeps Protected b w low = (refl, low)
leave_keeps Binary b w low = (refl, low)
