-- A budget trap comes exactly where one more unit would pass the limit.
use Rattle.std.proofs.Common.{◌≡◌, ℕ, zero, suc, ◌+◌, ◌<◌, ◌⊎◌, List, [], Option, Some, None, Result, Ok, Err, Bool, true, false, inl, inr, refl, sym, ap, ◌∙◌, subst, arith}
use Rattle.std.specs.Prelude.{IfErr, ◌==◌}
use Rattle.std.proofs.lemmas.Bool.{eqb-true, eq-eqb, ne_eqb, true≢false}
use Rattle.srmt_base.specs.declared.event.Event.{Event}
use Rattle.srmt_base.specs.declared.limits.Limits.{Limits}
use Rattle.srmt_base.specs.declared.part.Part.{Part}
use Rattle.srmt_base.specs.declared.part.Part.TheVariants.{Protected, Binary}
use Rattle.srmt_base.specs.declared.trap.Trap.{Trap}
use Rattle.srmt_base.specs.declared.trap.Trap.TheVariants.{Turns, Depth, Store as StoreTrap}
use Rattle.srmt_base.specs.declared.trap.SourceEnd.TheVariants.{Exit as ExitEnd, Trap as TrapEnd}
use Rattle.srmt_base.specs.Budgets.{budget_of}
use Rattle.srmt_base.specs.Memory.{Memory, begin_of, next_number}
use Rattle.mid_code.specs.declared.program.MidProgram.{MidProgram}
use Rattle.mid_code.specs.declared.access.Access.{Access}
use Rattle.mid_code.specs.Program.{function_at}
use Rattle.mid_code.specs.Machine.{Activation, Machine, Does, Goes, Calls, Leaves, Traps, Reaches, Lost, activations, one_if, live_of, part_of_function, local_of, waiting, returned, does}
use Rattle.mid_code.specs.Meaning.{State, Step, On, Ends, Stuck, Run, Running, Ended, NoWay, if_on, after_read, after_write, after_begin, after_return, own_part, reach, step, step_by, preceded, then_run, exec, started}
use Rattle.mid_code.specs.Start.{main_activation, started_machine}
use Rattle.mid_code.specs.Counting.{Counting, Uncounted, OneTurn, OneActivation, next_counting, turns_of, turns_in, turns_so_far, CountsExactly}
use Rattle.mid_code.specs.Laws.{CanRun, HasExactBudgets}
use Rattle.mid_code.proofs.Naming.{not_zero, whole}
use Rattle.mid_code.proofs.StartFits.{main_function, main_part}
use Rattle.mid_code.proofs.OtherTraps.{is_counted, IsOther, uncounted, begin_store}
use Rattle.mid_code.proofs.AccessShapes.{Shape, GivesValue, WritesMemory, BeginsObject, EndsObject, Tells, EndsRun, step_of, ShapeHolds, shaped}
use Rattle.mid_code.proofs.MemoryKept.{HasCells}
use Rattle.mid_code.proofs.StoreTraps.{cells_after, store_forward, store_back}
use Rattle.mid_code.proofs.InstructionsCounted.{Quiet, Counted, does_counted}
use Rattle.mid_code.proofs.BudgetsKept.{AfterCount, IfGoesOn, tested, turned, lost_call, call_tests, turn_tests, step_goes}

-- what was counted of a part and what is left to it make up its limits
record Balanced (program : MidProgram) (limits : Limits) (turns : Part → ℕ) (s : State) : Type 0 where
  turns_left : (part : Part) → turns part + (budget_of part s.machine.budgets).turns ≡ limits.turns
  depth_left : (part : Part) → live_of program part (activations s.machine) + (budget_of part s.machine.budgets).depth ≡ limits.depth

abbrev IfBalanced : MidProgram → Limits → (Part → ℕ) → Run → Type 0
IfBalanced program limits turns (Running s events) = Balanced program limits turns s
IfBalanced program limits turns (Ended end events) = Unit {0}
IfBalanced program limits turns NoWay = Unit {0}

balanced_preceded : (program : MidProgram) (limits : Limits) (turns more : Part → ℕ) (before : List Event) (r : Run) →
    ((part : Part) → turns part ≡ more part) →
    IfBalanced program limits turns r → IfBalanced program limits more (preceded before r)
balanced_preceded program limits turns more before (Running s events) same h = record {
  turns_left = λ part. omega (arith, same part, h.turns_left part);
  depth_left = h.depth_left;
}
balanced_preceded program limits turns more before (Ended end events) same h = tt
balanced_preceded program limits turns more before NoWay same h = tt

balanced_next : (program : MidProgram) (limits : Limits) (turns : Part → ℕ) (s next : State) (c : Counting) → Balanced program limits turns s →
    ((part : Part) → AfterCount program s.machine next.machine c part) → Balanced program limits (λ part. turns part + turns_of part c) next
balanced_next program limits turns s next c h after = record {
  turns_left = λ part. omega (arith, h.turns_left part, (after part).turns);
  depth_left = λ part. omega (arith, h.depth_left part, (after part).depth);
}

balanced_then : (program : MidProgram) (limits : Limits) (turns : Part → ℕ) (s : State) (t : Step) (more : ℕ) → Balanced program limits turns s →
    IfGoesOn program s.machine (next_counting program s.machine) t →
    ((turns : Part → ℕ) (next : State) → Balanced program limits turns next → IfBalanced program limits (λ part. turns part + turns_in program part more next) (exec program more next)) →
    IfBalanced program limits (λ part. turns part + (turns_of part (next_counting program s.machine) + if_on t 0 (turns_in program part more))) (then_run t (exec program more))
balanced_then program limits turns s (On next events) more h goes rest =
    let counted = next_counting program s.machine in
    balanced_preceded program limits (λ part. turns part + turns_of part counted + turns_in program part more next)
    (λ part. turns part + (turns_of part counted + turns_in program part more next)) events (exec program more next) (λ part. omega arith)
    (rest (λ part. turns part + turns_of part counted) next (balanced_next program limits turns s next counted h goes))
balanced_then program limits turns s (Ends end events) more h goes rest = tt
balanced_then program limits turns s Stuck more h goes rest = tt

balanced_run : (program : MidProgram) (limits : Limits) (steps : ℕ) (turns : Part → ℕ) (s : State) → Balanced program limits turns s →
    IfBalanced program limits (λ part. turns part + turns_in program part steps s) (exec program steps s)
balanced_run program limits zero turns s h = record { turns_left = λ part. omega (arith, h.turns_left part); depth_left = h.depth_left }
balanced_run program limits (suc more) turns s h =
    balanced_then program limits turns s (step program s) more h (step_goes program s) (λ turns' next h'. balanced_run program limits more turns' next h')

-- what counts nothing never ends the run by these budgets
abbrev EndsOther : Step → Type 0
EndsOther (On next events) = Unit {0}
EndsOther (Ends (TrapEnd trap line) events) = is_counted trap ≡ false
EndsOther (Ends (ExitEnd status) events) = Unit {0}
EndsOther Stuck = Unit {0}

module _ (program : MidProgram) (s : State) where
  read_ends : (target line : ℕ) (events : List Event) (next : State) (r : Result ℕ Trap) → IfErr r IsOther → EndsOther (after_read target line events next r)
  read_ends target line events next (Ok value) h = tt
  read_ends target line events next (Err trap) h = uncounted trap h

  write_ends : (line : ℕ) (events : List Event) (r : Result Memory Trap) → IfErr r IsOther → EndsOther (after_write line events s r)
  write_ends line events (Ok memory) h = tt
  write_ends line events (Err trap) h = uncounted trap h

  begin_ends : (target line number : ℕ) (r : Result Memory Trap) → IfErr r (λ trap. trap ≡ StoreTrap) → EndsOther (after_begin target line number s r)
  begin_ends target line number (Ok memory) h = tt
  begin_ends target line number (Err trap) h = ap is_counted h

  return_ends : (r : Option Machine) → EndsOther (after_return s r)
  return_ends (Some machine) = tt
  return_ends None = tt

  -- one case for each shape of an access
  shape_ends : (access : Access) (line : ℕ) (shape : Shape) → ShapeHolds program s access shape → EndsOther (step_of program line s shape)
  shape_ends access line (GivesValue target events value input) h = read_ends target line events (record s { input = input }) value h.other
  shape_ends access line (WritesMemory events memory) h = write_ends line events memory h.other
  shape_ends access line (BeginsObject target cells) h =
      begin_ends target line (next_number (own_part program s) s.memory) (begin_of (own_part program s) s.memory cells) (begin_store s.memory (own_part program s) cells)
  shape_ends access line (EndsObject number) h = tt
  shape_ends access line (Tells events) h = tt
  shape_ends access line (EndsRun status events) h = tt

  reach_ends : (access : Access) (line : ℕ) → EndsOther (reach program access line s)
  reach_ends access line =
      let found = shaped program s line access in
      subst EndsOther (sym found.is) (shape_ends access line found.shape found.holds)

  quiet_ends : (d : Does) → Quiet program (local_of program s.machine) d → EndsOther (step_by program d s)
  quiet_ends (Goes next) h = tt
  quiet_ends (Calls function args target) h = subst EndsOther (sym (lost_call program s function args target (waiting s.machine) s.machine.budgets h)) tt
  quiet_ends (Leaves value) h = return_ends (returned program value s.machine)
  quiet_ends (Traps trap line) h = uncounted trap h
  quiet_ends (Reaches access line) h = reach_ends access line
  quiet_ends Lost h = tt

no_other : (t : Step) (trap : Trap) (line : ℕ) → is_counted trap ≡ true → EndsOther t → t ≡ Ends (TrapEnd trap line) [] → ⊥
no_other t trap line told other e =
    let h : is_counted trap ≡ false = subst EndsOther e other in
    true≢false (sym told ∙ h)

module _ (program : MidProgram) (limits : Limits) (turns : Part → ℕ) (s : State) (balanced : Balanced program limits turns s) (cells : HasCells limits.cells s.memory) where
  abbrev depth_of : Part → ℕ
  depth_of part = (budget_of part s.machine.budgets).depth

  abbrev turns_left_of : Part → ℕ
  turns_left_of part = (budget_of part s.machine.budgets).turns

  -- what the trap of activations says, and that of turns
  abbrev DepthPast : ℕ → Counting → Type 0
  DepthPast line c = (part : Part) × (c ≡ OneActivation part line) × (live_of program part (activations s.machine) ≡ limits.depth)

  abbrev TurnsPast : ℕ → Counting → Type 0
  TurnsPast line c = (part : Part) × (turns part ≡ limits.turns)
      × ((c ≡ OneTurn part line) ⊎ ((c ≡ OneActivation part line) × (live_of program part (activations s.machine) < limits.depth)))

  abbrev Told : Counting → Does → Type 0
  Told c d = Counted program (local_of program s.machine) c d

  turned_no_depth : (line at : ℕ) (used : Bool) → turned program s at used ≡ Ends (TrapEnd Depth line) [] → ⊥
  turned_no_depth line at true e = cc
  turned_no_depth line at false e = cc

  tested_depth : (line at : ℕ) (own : Part) (callee : Activation) (deep used : Bool) → (depth_of own == 0) ≡ deep →
      tested s own at callee deep used ≡ Ends (TrapEnd Depth line) [] → DepthPast line (OneActivation own at)
  tested_depth line at own callee true used none e =
      let same : at ≡ line = cc in
      (own, ap (OneActivation own) same, omega (arith, balanced.depth_left own, eqb-true (depth_of own) 0 none))
  tested_depth line at own callee false true some e = absurd (cc)
  tested_depth line at own callee false false some e = absurd (cc)

  depth_forward : (line : ℕ) (c : Counting) (d : Does) → Told c d → step_by program d s ≡ Ends (TrapEnd Depth line) [] → DepthPast line c
  depth_forward line Uncounted d h e = absurd (no_other (step_by program d s) Depth line refl (quiet_ends program s d h) e)
  depth_forward line (OneTurn own at) d h e =
      absurd (turned_no_depth line at ((local_of program s.machine).budget.turns == 0) (sym (turn_tests program s at d h.1) ∙ e))
  depth_forward line (OneActivation own at) d h e =
      let t = call_tests program s own at d h in
      tested_depth line at own t.callee (depth_of own == 0) (turns_left_of own == 0) refl (sym t.step_is ∙ e)

  depth_back : (line : ℕ) (c : Counting) (d : Does) → Told c d → DepthPast line c → step_by program d s ≡ Ends (TrapEnd Depth line) []
  depth_back line c d h at =
      let told : Told (OneActivation at.0 line) d = subst (λ x. Told x d) at.1 h in
      let t = call_tests program s at.0 line d told in
      let none : depth_of at.0 ≡ 0 = omega (arith, balanced.depth_left at.0, at.2) in
      t.step_is ∙ ap (λ b. tested s at.0 line t.callee b (turns_left_of at.0 == 0)) (eq-eqb (depth_of at.0) 0 none)

  turned_turns : (line at : ℕ) (used : Bool) → let own = part_of_function program s.machine.top.function in (turns_left_of own == 0) ≡ used →
      turned program s at used ≡ Ends (TrapEnd Turns line) [] → TurnsPast line (OneTurn own at)
  turned_turns line at true none e =
      let own = part_of_function program s.machine.top.function in
      let same : at ≡ line = cc in
      (own, omega (arith, balanced.turns_left own, eqb-true (turns_left_of own) 0 none), inl (ap (OneTurn own) same))
  turned_turns line at false some e = absurd (cc)

  tested_turns : (line at : ℕ) (own : Part) (callee : Activation) (deep used : Bool) → (depth_of own == 0) ≡ deep → (turns_left_of own == 0) ≡ used →
      tested s own at callee deep used ≡ Ends (TrapEnd Turns line) [] → TurnsPast line (OneActivation own at)
  tested_turns line at own callee true used deep none e = absurd (cc)
  tested_turns line at own callee false true deep none e =
      let same : at ≡ line = cc in (
        own,
        omega (arith, balanced.turns_left own, eqb-true (turns_left_of own) 0 none),
        inr (ap (OneActivation own) same, omega (arith, balanced.depth_left own, not_zero (depth_of own) deep)),
      )
  tested_turns line at own callee false false deep some e = absurd (cc)

  turns_forward : (line : ℕ) (c : Counting) (d : Does) → Told c d → step_by program d s ≡ Ends (TrapEnd Turns line) [] → TurnsPast line c
  turns_forward line Uncounted d h e = absurd (no_other (step_by program d s) Turns line refl (quiet_ends program s d h) e)
  turns_forward line (OneTurn own at) d h e =
      subst (λ p. TurnsPast line (OneTurn p at)) h.0
      (turned_turns line at ((local_of program s.machine).budget.turns == 0) refl (sym (turn_tests program s at d h.1) ∙ e))
  turns_forward line (OneActivation own at) d h e =
      let t = call_tests program s own at d h in
      tested_turns line at own t.callee (depth_of own == 0) (turns_left_of own == 0) refl refl (sym t.step_is ∙ e)

  turns_back : (line : ℕ) (c : Counting) (d : Does) → Told c d → TurnsPast line c → step_by program d s ≡ Ends (TrapEnd Turns line) []
  turns_back line c d h at =
      let none : turns_left_of at.0 ≡ 0 = omega (arith, balanced.turns_left at.0, at.1) in
      let test : (turns_left_of at.0 == 0) ≡ true = eq-eqb (turns_left_of at.0) 0 none in
      elim at.2 as (λ _. step_by program d s ≡ Ends (TrapEnd Turns line) []) [
        | inl turn ↦
            let told : Told (OneTurn at.0 line) d = subst (λ x. Told x d) turn h in
            turn_tests program s line d told.1 ∙ ap (turned program s line) (ap (λ p. turns_left_of p == 0) told.0 ∙ test)
        | inr entry ↦
            let told : Told (OneActivation at.0 line) d = subst (λ x. Told x d) entry.0 h in
            let t = call_tests program s at.0 line d told in
            let deep : (depth_of at.0 == 0) ≡ false = ne_eqb (depth_of at.0) 0 (λ e. omega (arith, e, balanced.depth_left at.0, entry.1)) in
            t.step_is ∙ ap (λ b. tested s at.0 line t.callee b (turns_left_of at.0 == 0)) deep ∙ ap (tested s at.0 line t.callee false) test
      ]

  exact : CountsExactly program limits turns s
  exact =
      let c = next_counting program s.machine in
      let d = does program (local_of program s.machine) in
      let told = does_counted program (local_of program s.machine) in
      record {
        turns_within = λ part. omega (arith, balanced.turns_left part);
        depth_within = λ part. omega (arith, balanced.depth_left part);
        depth_trap = λ line. (depth_forward line c d told, depth_back line c d told);
        turns_trap = λ line. (turns_forward line c d told, turns_back line c d told);
        store_trap = λ line. (store_forward limits.cells program s line cells, store_back limits.cells program s line cells);
      }

-- at the start the turn and the activation of `main` are counted
balanced_started : (program : MidProgram) (input : List ℕ) (limits : Limits) → CanRun program input limits →
    Balanced program limits (λ part. one_if part Protected) (started program input limits)
balanced_started program input limits can =
    let own : part_of_function program (main_activation program (function_at program program.main)).function ≡ Protected =
    ap (part_of_function program) (main_function program (function_at program program.main)) ∙ main_part program (whole program can.valid) in
    record { turns_left = left; depth_left = deep own }
  where
    left : (part : Part) → one_if part Protected + (budget_of part (started_machine program limits).budgets).turns ≡ limits.turns
    left Protected = omega (arith, can.fit.some_turns)
    left Binary = omega arith

    deep : part_of_function program (main_activation program (function_at program program.main)).function ≡ Protected → (part : Part) →
        live_of program part (activations (started_machine program limits)) + (budget_of part (started_machine program limits).budgets).depth ≡ limits.depth
    deep own Protected = omega (arith, can.fit.some_depth, ap (one_if Protected) own)
    deep own Binary = omega (arith, ap (one_if Binary) own)

pub counts_exactly : (program : MidProgram) (input : List ℕ) (limits : Limits) → CanRun program input limits → HasExactBudgets program input limits
counts_exactly program input limits can steps s events e =
    let start = started program input limits in
    let counted : Part → ℕ = λ part. turns_so_far program part steps start in
    let balanced = balanced_run program limits steps (λ part. one_if part Protected) start (balanced_started program input limits can) in
    exact program limits counted s (subst (IfBalanced program limits counted) e balanced) (cells_after program input limits steps s events e)
