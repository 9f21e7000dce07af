-- One step of the machine is one step of the meaning.
use Rattle.std.proofs.Common.{◌≡◌, ℕ, List, [], ◌∷◌, Option, Some, None, refl, sym, ap, ◌∙◌, subst}
use Rattle.std.specs.Prelude.{Result, Ok, Err, IfOk}
use Rattle.srmt_base.specs.declared.event.Event.{Event}
use Rattle.srmt_base.specs.declared.trap.Trap.{Trap}
use Rattle.srmt_base.specs.declared.trap.SourceEnd.{SourceEnd}
use Rattle.srmt_base.specs.declared.trap.SourceEnd.TheVariants.{Trap as TrapEnd}
use Rattle.mid_code.specs.declared.program.MidProgram.{MidProgram}
use Rattle.mid_code.specs.declared.program.MidLine.{MidLine}
use Rattle.mid_code.specs.Program.{line_at}
use Rattle.mid_code.specs.Valid.{IsValid}
use Rattle.mid_code.specs.declared.registers.Registers.{Registers}
use Rattle.mid_code.specs.declared.access.Access.{Access}
use Rattle.mid_code.specs.Machine.{Activation, Machine, Does, Goes, Calls, Leaves, Traps, Reaches, local_of, act, arguments, waiting, enter, returned}
use Rattle.mid_code.specs.Meaning.{State, Step, On, Ends, after_call, after_return, reach, step, step_by}
use Rattle.mid_code.specs.Fits.{IsWithin, AreBelow, Fits, IsMachine}
use Rattle.mid_code.proofs.InstructionsFit.{DoesFit, next_found, does-at, does_fits}
use Rattle.mid_code.proofs.StatesFit.{fits_on}
use Rattle.frames.specs.declared.running.Running.{Running}
use Rattle.srmt_outside.specs.Told.{Appends}
use Rattle.frames.specs.Kept.{Kept, TakesResult}
use Rattle.frames.specs.declared.act.Did.{Did}
use Rattle.frames.specs.declared.act.Did.TheVariants.{Went, Called, Left, Trapped, Wants}
use Rattle.frames.specs.Acts.{HasDone}
use Rattle.frames.specs.Reaching.{state_of, LeadsTo, HasRoom}
use Rattle.frames.proofs.FewObjects.{few_in}
use Rattle.mid_run.specs.Progress.{Progress, At, Over, FitsIn, Steps, end_of}
use Rattle.mid_run.specs.declared.run.MidRun.TheInside.{Inside}
use Rattle.mid_run.specs.View.{progress_of, progress_by}

-- there is an instruction
pub found : (program : MidProgram) (a : Activation) → IsWithin program a → line_at program a.function a.place ≡ None → ⊥
found program a w none = let l = next_found program a w in absurd (cc)

pub has_room : (program : MidProgram) (r : Running) → Fits program (state_of r) → r.frames.room.objects ≡ 2097152 → HasRoom r
has_room program r fits room = record {
  opened = fits.opened;
  protected_few = few_in _ r.memory.protected fits.memory.protected;
  binary_few = few_in _ r.memory.binary fits.memory.binary;
  room = room;
}

-- what the instruction does is the step
pub step-act : (program : MidProgram) (s : State) (line : MidLine) (d : Does) → line_at program s.machine.top.function s.machine.top.place ≡ Some line →
    act program line.mid line.line (local_of program s.machine) ≡ d → step program s ≡ step_by program d s
step-act program s line d at e = ap (λ x. step_by program x s) (does-at program (local_of program s.machine) line at ∙ e)

module _ (program : MidProgram) (r : Running) (line : MidLine) (after : Kept) where
  abbrev Done : Did → Type 0
  Done did = HasDone program (act program line.mid line.line (local_of program r.frames.machine)) line.line r.frames after did

  -- the activation has gone on
  pub went : line_at program r.frames.machine.top.function r.frames.machine.top.place ≡ Some line → Done Went →
      step program (state_of r) ≡ On (state_of (record r { frames = after })) []
  went at done =
      step-act program (state_of r) line (Goes done.local) at done.goes
      ∙ ap (λ (k : Kept). On (state_of (record r { frames = k })) []) (sym done.stands)

  -- a function is called
  pub called : (function : ℕ) (args : Registers) (target : ℕ) (next : State) (end : Option SourceEnd) →
      line_at program r.frames.machine.top.function r.frames.machine.top.place ≡ Some line → Done (Called function args target) →
      LeadsTo (after_call (state_of (record r { frames = after })) (enter program function (arguments after.machine.top args) target (waiting after.machine) after.machine.budgets)) next [] end →
      LeadsTo (step program (state_of r)) next [] end
  called function args target next end at done leads =
      let same = subst (λ (k : Kept). LeadsTo (after_call (state_of (record r { frames = k })) (enter program function (arguments k.machine.top args) target (waiting k.machine) k.machine.budgets)) next [] end) done.1 leads in
      subst (λ (x : Step). LeadsTo x next [] end) (sym (step-act program (state_of r) line (Calls function (arguments r.frames.machine.top args) target) at done.0)) same

  -- a function is left
  pub returned_on : (value : ℕ) (back : Kept) → line_at program r.frames.machine.top.function r.frames.machine.top.place ≡ Some line → Done (Left value) →
      returned program value after.machine ≡ Some back.machine → step program (state_of r) ≡ On (state_of (record r { frames = back })) []
  returned_on value back at done returns =
      let same : returned program value r.frames.machine ≡ Some back.machine = subst (λ (k : Kept). returned program value k.machine ≡ Some back.machine) done.1 returns in
      step-act program (state_of r) line (Leaves value) at done.0 ∙ ap (after_return (state_of r)) same

  -- the run stops
  pub stopped : (trap : Trap) (place : ℕ) → line_at program r.frames.machine.top.function r.frames.machine.top.place ≡ Some line → Done (Trapped trap place) →
      step program (state_of r) ≡ Ends (TrapEnd trap place) []
  stopped trap place at done = step-act program (state_of r) line (Traps trap place) at done.0

  -- memory or the outside are wanted
  pub wanted : (access : Access) → line_at program r.frames.machine.top.function r.frames.machine.top.place ≡ Some line → Done (Wants access) →
      step program (state_of r) ≡ reach program access line.line (state_of (record r { frames = after }))
  wanted access at done =
      step-act program (state_of r) line (Reaches access line.line) at done.0
      ∙ ap (λ (k : Kept). reach program access line.line (state_of (record r { frames = k }))) (sym done.1)

-- what memory and the outside have done is told
pub led_by : {E : Type 0} (x y : Step) (next : State) (given : Option SourceEnd → List Event) (before after : Option (List Event)) (result : Result (Option SourceEnd) E) →
    y ≡ x → IfOk result (λ end. LeadsTo x next (given end) end) → IfOk result (λ end. Appends before after (given end)) →
    IfOk result (λ end. (events : List Event) × LeadsTo y next events end × Appends before after events)
led_by x y next given before after (Ok end) is leads told = (given end, subst (λ (z : Step). LeadsTo z next (given end) end) (sym is) leads, told)
led_by x y next given before after (Err error) is leads told = tt

-- a function that is left has a caller
pub result_taken : (program : MidProgram) (m : Machine) (line : MidLine) (value : ℕ) → IsValid program → IsMachine program m →
    line_at program m.top.function m.top.place ≡ Some line → act program line.mid line.line (local_of program m) ≡ Leaves value → TakesResult m.top.into m.below
result_taken program m line value valid h at e =
    let fits : DoesFit program (local_of program m) (Leaves value) =
    subst (DoesFit program (local_of program m)) (does-at program (local_of program m) line at ∙ e) (does_fits program (local_of program m) valid h.top).0 in
    by_below m.below h.below fits.0
  where
    by_below : (below : List Activation) → AreBelow program m.top below → (m.top.function ≡ program.main → ⊥) → TakesResult m.top.into below
    by_below [] main other = absurd (other main)
    by_below (caller ∷ rest) below other = below.0

-- a run that is not over stands at its state
pub stands_at : (p : Progress) (a : Inside) → progress_of a ≡ p → a.over ≡ None → p ≡ At (state_of a.running)
stands_at p a view none = sym view ∙ ap (λ o. progress_by o (state_of a.running)) none

-- a step of the meaning is a step of the run
pub led : (program : MidProgram) (p : Progress) (s next : State) (events : List Event) (end : Option SourceEnd) → IsValid program → FitsIn program p → p ≡ At s →
    LeadsTo (step program s) next events end → Steps program p events (progress_by end next) × FitsIn program (progress_by end next)
led program p s next events None valid fits here e =
    let on : Steps program (At s) events (At next) = e in
    (subst (λ q. Steps program q events (At next)) (sym here) on, fits_on program s next events valid (subst (FitsIn program) here fits) e)
led program p s next events (Some end) valid fits here e =
    let over : Steps program (At s) events (Over end) = e in
    (subst (λ q. Steps program q events (Over end)) (sym here) over, tt)

pub end_of-by : (end : Option SourceEnd) (s : State) → end_of (progress_by end s) ≡ end
end_of-by None s = refl
end_of-by (Some end) s = refl
