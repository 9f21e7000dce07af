-- A step that keeps the pending work, the function that runs and the budgets keeps what makes a run sound, and weighs less.
use Rattle.std.proofs.Common.{◌≡◌, ℕ, ◌<◌, sym, subst, ap, arith}
use Rattle.c_typed.specs.declared.program.TypedProgram.{TypedProgram}
use Rattle.c_typed.specs.Typed.{Value}
use Rattle.c_meaning.specs.declared.run.Did.{Did}
use Rattle.c_meaning.specs.declared.run.Did.TheVariants as did
use Rattle.c_meaning.specs.declared.run.Run.{Run}
use Rattle.c_meaning.specs.Pending.{does, finish}
use Rattle.c_meaning.specs.Runs.{Frames, IsSound, Falls, work_with, turns_of, types_of}
use Rattle.c_meaning.specs.Sound.{AllCanRun, IsReady}
use Rattle.c_meaning.specs.Stack.{pending}
use Rattle.c_meaning.specs.TaskViews.{current_view, tasks_view}
use Rattle.c_meaning.specs.Told.{IsFraming}
use Rattle.c_meaning.specs.Work.{work_of}

module _ (p : TypedProgram) (old new : Run) (f : Frames old new) where
  pub framed-sound : IsSound p old → IsSound p new
  framed-sound s = record {
    tasks = subst (λ ts. AllCanRun (tasks_view (types_of p) (pending ts))) (sym f.tasks) s.tasks;
    current = subst (λ c. IsReady (current_view (types_of p) c)) (sym f.current) s.current;
    depths = rw (f.budgets, f.tasks) s.depths;
  }

  same-turns : turns_of new.world.budgets ≡ turns_of old.world.budgets
  same-turns = ap turns_of f.budgets

  less-work : (e : Value) → work_of (tasks_view (types_of p) (pending new.tasks)) < work_with p (does (finish e)) old
  less-work e = rw (f.tasks) (omega arith)

  pub framed-falls : (e : Value) (d : Did) → IsFraming d → Falls p (work_with p (does (finish e)) old) old new d
  framed-falls e did.Went is = (same-turns, less-work e)
  framed-falls e (did.Told event) is = (same-turns, less-work e)
  framed-falls e did.Turned is = absurd is
  framed-falls e (did.Trapped t) is = tt
  framed-falls e (did.Exited v) is = tt

-- a turn was taken, or the run has ended
pub falls-more : (p : TypedProgram) (old new : Run) (n : ℕ) (d : Did) → Falls p 0 old new d → Falls p n old new d
falls-more p old new n did.Went is = absurd (omega (arith, is.1))
falls-more p old new n (did.Told event) is = absurd (omega (arith, is.1))
falls-more p old new n did.Turned is = is
falls-more p old new n (did.Trapped t) is = tt
falls-more p old new n (did.Exited v) is = tt
