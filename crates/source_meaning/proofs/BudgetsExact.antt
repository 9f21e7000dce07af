-- A budget trap comes exactly where one unit more would pass the limit, at each place where a unit is taken.
use Rattle.std.proofs.Common.{◌≡◌, ℕ, zero, suc, ◌+◌, ◌-◌, ◌==◌, ◌≤◌, ◌⊎◌, inl, inr, Bool, true, false, refl, ap, ◌∙◌, Result, Ok, Err, arith}
use Rattle.std.specs.Prelude.{if◌then◌else◌, nat_lt}
use Rattle.std.proofs.lemmas.Bool.{ltb-false, ltb-true, eqb-true}
use Rattle.srmt_base.specs.declared.budgets.Budget.{Budget}
use Rattle.srmt_base.specs.declared.budgets.Budgets.{Budgets}
use Rattle.srmt_base.specs.declared.part.Part.{Part}
use Rattle.srmt_base.specs.declared.trap.Trap.{Trap}
use Rattle.srmt_base.specs.declared.trap.Trap.TheVariants.{Turns, Depth, Store}
use Rattle.srmt_base.specs.Budgets.{budget_of, after_turn, after_entry, spent, with_result}
use Rattle.srmt_base.specs.Objects.{Objects, pointer_to, live_cells}
use Rattle.srmt_base.specs.Memory.{Count, last_number, objects_of, begun_if, changed}
use Rattle.c_types.specs.Types.{cells_of}
use Rattle.source_meaning.specs.World.{World, Outcome, and_then, becomes, computed, set_local}
use Rattle.source_meaning.specs.Places.{Setting, row_of}
use Rattle.source_meaning.specs.BudgetLaws.{TakesTurn, TakesEntry, TakesCells}

-- a test of a number against 0
some_left : (n : ℕ) → n == 0 ≡ false → 1 ≤ n
some_left zero e = absurd cc
some_left (suc n) e = omega arith

turn_cases : (b : Budget) → ((b.turns ≡ 0) × (after_turn b ≡ Err Turns)) ⊎ ((1 ≤ b.turns) × (after_turn b ≡ Ok (record b { turns = b.turns - 1 })))
turn_cases b = by_test (b.turns == 0) refl
  where
    by_test : (t : Bool) → b.turns == 0 ≡ t → ((b.turns ≡ 0) × (after_turn b ≡ Err Turns)) ⊎ ((1 ≤ b.turns) × (after_turn b ≡ Ok (record b { turns = b.turns - 1 })))
    by_test true e = inl (eqb-true b.turns 0 e, ap (λ t. if t then Err Turns else Ok (record b { turns = b.turns - 1 })) e)
    by_test false e = inr (some_left b.turns e, ap (λ t. if t then Err Turns else Ok (record b { turns = b.turns - 1 })) e)

EntryCases : Budget → Type 0
EntryCases b =
    ((b.depth ≡ 0) × (after_entry b ≡ Err Depth))
    ⊎ ((1 ≤ b.depth) × (b.turns ≡ 0) × (after_entry b ≡ Err Turns))
    ⊎ ((1 ≤ b.depth) × (1 ≤ b.turns) × (after_entry b ≡ Ok (spent b)))

entry_cases : (b : Budget) → EntryCases b
unfolding EntryCases
entry_cases b = by_tests (b.depth == 0) (b.turns == 0) refl refl
  where
    tested : Bool → Bool → Result Budget Trap
    tested d t = if d then Err Depth else if t then Err Turns else Ok (spent b)

    by_tests : (d t : Bool) → b.depth == 0 ≡ d → b.turns == 0 ≡ t → EntryCases b
    by_tests true t e f = inl (eqb-true b.depth 0 e, ap (λ d. tested d (b.turns == 0)) e)
    by_tests false true e f =
        inr (inl (some_left b.depth e, eqb-true b.turns 0 f, ap (λ d. tested d (b.turns == 0)) e ∙ ap (λ t. tested false t) f))
    by_tests false false e f =
        inr (inr (some_left b.depth e, some_left b.turns f, ap (λ d. tested d (b.turns == 0)) e ∙ ap (λ t. tested false t) f))

-- the world after a result of the budgets
after_budgets : ℕ → World → Result Budgets Trap → Outcome (Unit {0})
after_budgets line w r = and_then (computed line r w) (λ budgets. becomes (λ w. record w { budgets = budgets }))

pub takes_turn : (part : Part) (line : ℕ) (w : World) → TakesTurn part line w
unfolding after_budgets
takes_turn part line w = by_cases (turn_cases (budget_of part w.budgets))
  where
    by_cases : ((budget_of part w.budgets).turns ≡ 0) × (after_turn (budget_of part w.budgets) ≡ Err Turns)
        ⊎ (1 ≤ (budget_of part w.budgets).turns) × (after_turn (budget_of part w.budgets) ≡ Ok (record (budget_of part w.budgets) { turns = (budget_of part w.budgets).turns - 1 }))
        → TakesTurn part line w
    by_cases (inl h) = inl (h.0, ap (λ r. after_budgets line w (with_result part w.budgets r)) h.1)
    by_cases (inr h) = inr (h.0, ap (λ r. after_budgets line w (with_result part w.budgets r)) h.1)

pub takes_entry : (part : Part) (line : ℕ) (w : World) → TakesEntry part line w
unfolding after_budgets EntryCases
takes_entry part line w = by_cases (entry_cases (budget_of part w.budgets))
  where
    by_cases : EntryCases (budget_of part w.budgets) → TakesEntry part line w
    by_cases (inl h) = inl (h.0, ap (λ r. after_budgets line w (with_result part w.budgets r)) h.1)
    by_cases (inr (inl h)) = inr (inl (h.0, h.1, ap (λ r. after_budgets line w (with_result part w.budgets r)) h.2))
    by_cases (inr (inr h)) = inr (inr (h.0, h.1, ap (λ r. after_budgets line w (with_result part w.budgets r)) h.2))

-- the world after a result of drawing
after_draw : Setting → ℕ → World → Result Count Trap → Outcome (Unit {0})
after_draw s n w r =
    and_then
    (and_then
    (computed (row_of s n).line
    (changed s.part w.memory (begun_if r (objects_of s.part w.memory) (cells_of (row_of s n).type.type))) w)
    (λ memory. becomes (λ w. record w { memory = memory })))
    (λ done. set_local n (pointer_to (objects_of s.part w.memory).fresh 0))

pub takes_cells : (s : Setting) (n : ℕ) (w : World) → TakesCells s n w
unfolding after_draw
takes_cells s n w = by_tests (nat_lt (last_number s.part) live.fresh) (nat_lt live.budget needed) refl refl
  where
    live : Objects
    live = objects_of s.part w.memory

    needed : ℕ
    needed = live_cells live + cells_of (row_of s n).type.type

    drawn : Bool → Bool → Result Count Trap
    drawn past full = if past then Err Store else if full then Err Store else Ok (record { fresh = live.fresh + 1; cells = needed; budget = live.budget })

    by_tests : (past full : Bool) → nat_lt (last_number s.part) live.fresh ≡ past → nat_lt live.budget needed ≡ full → TakesCells s n w
    by_tests true full e f =
        inl (inl (ltb-true (last_number s.part) live.fresh e), ap (λ p. after_draw s n w (drawn p (nat_lt live.budget needed))) e)
    by_tests false true e f =
        inl (
          inr (ltb-true live.budget needed f),
          ap (λ p. after_draw s n w (drawn p (nat_lt live.budget needed))) e ∙ ap (λ p. after_draw s n w (drawn false p)) f,
        )
    by_tests false false e f =
        inr (
          ltb-false (last_number s.part) live.fresh e,
          ltb-false live.budget needed f,
          ap (λ p. after_draw s n w (drawn p (nat_lt live.budget needed))) e ∙ ap (λ p. after_draw s n w (drawn false p)) f,
        )
