-- A call comes to the body of its function, with the tasks that leave it.
use Rattle.std.proofs.Common.{◌≡◌, ℕ, ◌≤◌, List, [], ◌∷◌, length, Option, Some, None, refl, ap, ◌∙◌}
use Rattle.std.specs.Prelude.{replicate}
use Rattle.srmt_base.specs.declared.trap.Trap.TheVariants.{NotAFunction}
use Rattle.srmt_base.specs.declared.trap.SourceEnd.TheVariants.{Trap as TrapEnd}
use Rattle.srmt_base.specs.Budgets.{enter_of, leave_of}
use Rattle.c_typed.specs.Statements.{Function, Program}
use Rattle.source_meaning.specs.World.{World, Ends, Doing, and_then, ◌>>=◌, ◌>>◌, pure, becomes, exits, spends}
use Rattle.source_meaning.specs.Places.{Setting, function_at, part_of_function, all_begin, all_end}
use Rattle.source_meaning.specs.Statements.{Completion, normal, in_block, locals_of, executes_items}
use Rattle.source_meaning.specs.Calls.{parameters_begin, numbers_below, value_returned, body_of, entered, setting_of, calls}
use Rattle.source_meaning.specs.BudgetLaws.{turns_left}
use Rattle.source_meaning.proofs.Associates.{then_then, then_same}
use Rattle.source_meaning.proofs.Opened.{calls_open}
use Rattle.c_meaning.specs.Pending.{Current, Task, execute_items, end_block, leave, setting_at, goes}
use Rattle.c_meaning.proofs.Groups.{thrice_then, block_then, spends_same}

module _ (program : Program) (bound : ℕ) where
  -- the body of a function that a call runs
  abbrev body_at : ℕ → List ℕ → Function → Doing ℕ
  body_at number arguments f = body_of (setting_of program number f (calls program bound)) bound f arguments

  -- what comes to a call comes to the entry of its function
  opened : {A : Type 0} (line number : ℕ) (arguments : List ℕ) (found : Option Function) (k : ℕ → Doing A) (w : World)
      → function_at program number ≡ found → turns_left w ≤ bound
      → (calls program bound line number arguments >>= k) w
      ≡ (entered line (part_of_function program number) found (body_at number arguments) >>= k) w
  opened line number arguments found k w is low =
      ap (λ o. and_then o k) (calls_open program bound line number arguments w low)
      ∙ ap (λ o. (entered line (part_of_function program number) o (body_at number arguments) >>= k) w) is

  pub call_fails : {A : Type 0} (line number : ℕ) (arguments : List ℕ) (k : ℕ → Doing A) (w : World)
      → function_at program number ≡ None → turns_left w ≤ bound
      → (calls program bound line number arguments >>= k) w ≡ Ends (TrapEnd NotAFunction line) w.events
  call_fails line number arguments k w is low = opened line number arguments None k w is low

  module _ (ts : List Task) (c : Current) (vs : List ℕ) (number : ℕ) (f : Function) where
    -- the function that is called
    abbrev pub callee : Current
    callee = record { part = part_of_function program number; function = f }

    abbrev d : Setting
    d = setting_at program bound callee

    -- what follows the body: its caller has its locals again, and goes on with the value
    abbrev left : List ℕ → ℕ → Doing ℕ
    left locals v = becomes (λ u. record u { locals = locals }) >> pure v

    abbrev budgets_back : ℕ → Doing ℕ
    budgets_back v = becomes (λ u. record u { budgets = leave_of callee.part u.budgets }) >> pure v

    abbrev goes_on : ℕ → Doing ⊥
    goes_on v = goes program bound ts c (v ∷ vs) normal

    abbrev ends_call : List ℕ → Completion → Doing ℕ
    ends_call locals j = all_end d (numbers_below f.parameters) >> left locals (value_returned j)

    abbrev tasks : List ℕ → List Task
    tasks locals = execute_items f.body ∷ end_block f.body ∷ leave c locals ∷ ts

    left_goes : (locals : List ℕ) (j : Completion) (w : World)
        → ((ends_call locals j >>= budgets_back) >>= goes_on) w ≡ goes program bound (leave c locals ∷ ts) callee vs j w
    left_goes locals j w = thrice_then (all_end d (numbers_below f.parameters)) (λ ended. left locals (value_returned j)) budgets_back goes_on w

    body_goes : (locals : List ℕ) (w : World)
        → (((in_block d (locals_of f.body) (executes_items d bound f.body) >>= ends_call locals) >>= budgets_back) >>= goes_on) w
        ≡ (all_begin d (locals_of f.body) >> goes program bound (tasks locals) callee vs normal) w
    body_goes locals w =
        thrice_then (in_block d (locals_of f.body) (executes_items d bound f.body)) (ends_call locals) budgets_back goes_on w
        ∙ block_then d (locals_of f.body) (executes_items d bound f.body) (λ j. (ends_call locals j >>= budgets_back) >>= goes_on) w
        ∙ then_same (all_begin d (locals_of f.body)) _ _
        (λ begun u. then_same (executes_items d bound f.body) _ _
        (λ j v. then_same (all_end d (locals_of f.body)) _ _ (λ ended x. left_goes locals j x) v) u) w

    pub call_enters : (line : ℕ) (arguments : List ℕ) (w : World) → function_at program number ≡ Some f → turns_left w ≤ bound
        → (calls program bound line number arguments >>= goes_on) w
        ≡ (spends f.line (enter_of callee.part)
        >> (becomes (λ u. record u { locals = replicate (length f.locals) 0 })
        >> (parameters_begin d 0 arguments
        >> (all_begin d (locals_of f.body) >> goes program bound (tasks w.locals) callee vs normal)))) w
    call_enters line arguments w is low =
        opened line number arguments (Some f) goes_on w is low
        ∙ then_then (spends f.line (enter_of callee.part)) _ goes_on w
        ∙ spends_same f.line (enter_of callee.part) _ _ w
        (λ b. thrice_then (parameters_begin d 0 arguments)
        (λ begun. in_block d (locals_of f.body) (executes_items d bound f.body) >>= ends_call w.locals) budgets_back goes_on
        (record w { budgets = b; locals = replicate (length f.locals) 0 })
        ∙ then_same (parameters_begin d 0 arguments) _ _ (λ begun u. body_goes w.locals u)
        (record w { budgets = b; locals = replicate (length f.locals) 0 }))

  -- a run of `main` ends with the value that it returns as the status
  pub goes_starts : (number : ℕ) (c : Current) (w : World)
      → (calls program bound 0 number [] >>= exits {A = ⊥}) w
      ≡ (calls program bound 0 number [] >>= (λ v. goes program bound [] c (v ∷ []) normal)) w
  goes_starts number c w = refl
