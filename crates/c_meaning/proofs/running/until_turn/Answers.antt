use Rattle.std.proofs.Common.{◌∙◌, ℕ, Option, Err, refl, subst, arith}
use Rattle.std.proofs.lemmas.Result.{err_from_is_err_and}
use Rattle.srmt_base.specs.declared.trap.SourceEnd.{SourceEnd}
use Rattle.c_meaning.specs.declared.running.Next.{Next}
use Rattle.c_meaning.specs.Ending.{Faulted, rest_from, Came}
use Rattle.c_meaning.specs.Runs.{turns_of, work_left}
use Rattle.c_meaning.proofs.Endings.{same_fault, so_far_at_first, so_far_on, so_far_ends, so_far_stops}
use Rattle.c_meaning.proofs.running.until_turn.Goals as goal

pub loop-end-init : goal.loop-end-init
loop-end-init g c = record {
  so_far = so_far_at_first c.args.program.now c.args.run.now (g.O.Outlet.events c.args.outlet.now);
  sound = c.requires.sound;
  turns = refl;
  faults = refl;
}

pub advance-requires-clause-sound : goal.advance-requires-clause-sound
advance-requires-clause-sound g c = c.loop-end.invariant.sound

pub returns-in_err-advance-clause-stopped : goal.returns-in_err-advance-clause-stopped
returns-in_err-advance-clause-stopped g c =
    let p = err_from_is_err_and c.from_residual.result c.from_residual.ensures.1 in
    rw (p.1, c.in_err-advance.ensures.unwritten) (so_far_stops c.args.program.now _ _ c.loop-end.run _ _ c.loop-end.invariant.so_far)

pub returns-in_err-advance-clause-faults : goal.returns-in_err-advance-clause-faults
returns-in_err-advance-clause-faults g c =
    let p = err_from_is_err_and c.from_residual.result c.from_residual.ensures.1 in
    rw (p.1, p.2) (subst (λ (n : ℕ). Faulted {A = Option SourceEnd} (Err c.in_err-advance.field-0.0) n (g.O.Outlet.faults c.advance.new.outlet)) c.loop-end.invariant.faults (same_fault Next (Option SourceEnd) c.in_err-advance.field-0.0 _ _ c.in_err-advance.ensures.faults))

pub loop-end-smaller : goal.loop-end-smaller
loop-end-smaller g c =
    let came = subst (Came c.args.program.now (rest_from c.args.program.now c.loop-end.run) (work_left c.args.program.now c.loop-end.run) (turns_of c.loop-end.run.world.budgets) c.advance.new.run _ _) c.in-Goes.is c.in_ok-advance.ensures.came in
    came.less.1

pub loop-end-preserved : goal.loop-end-preserved
loop-end-preserved g c =
    let came = subst (Came c.args.program.now (rest_from c.args.program.now c.loop-end.run) (work_left c.args.program.now c.loop-end.run) (turns_of c.loop-end.run.world.budgets) c.advance.new.run _ _) c.in-Goes.is c.in_ok-advance.ensures.came in
    let kept = came.less.0 in
    record {
      so_far = so_far_on c.args.program.now _ _ c.loop-end.run c.advance.new.run _ _ _ came.told c.loop-end.invariant.so_far came.appends came.rest (omega (arith, kept));
      sound = c.in_ok-advance.ensures.sound;
      turns = kept ∙ c.loop-end.invariant.turns;
      faults = c.in_ok-advance.ensures.faults ∙ c.loop-end.invariant.faults;
    }

pub returns-in-Turns-clause-reached : goal.returns-in-Turns-clause-reached
returns-in-Turns-clause-reached g c =
    let came = subst (Came c.args.program.now (rest_from c.args.program.now c.loop-end.run) (work_left c.args.program.now c.loop-end.run) (turns_of c.loop-end.run.world.budgets) c.advance.new.run _ _) c.in-Turns.is c.in_ok-advance.ensures.came in
    let spent = came.less in
    let all = so_far_on c.args.program.now _ _ c.loop-end.run c.advance.new.run _ _ _ came.told c.loop-end.invariant.so_far came.appends came.rest (omega (arith, spent)) in
    record { told = all.told; appends = all.appends; rest = (all.rest, spent ∙ c.loop-end.invariant.turns) }

pub returns-in-Turns-clause-faults : goal.returns-in-Turns-clause-faults
returns-in-Turns-clause-faults g c = c.in_ok-advance.ensures.faults ∙ c.loop-end.invariant.faults

pub returns-in-Ends-clause-reached : goal.returns-in-Ends-clause-reached
returns-in-Ends-clause-reached g c =
    let came = subst (Came c.args.program.now (rest_from c.args.program.now c.loop-end.run) (work_left c.args.program.now c.loop-end.run) (turns_of c.loop-end.run.world.budgets) c.advance.new.run _ _) c.in-Ends.is c.in_ok-advance.ensures.came in
    let all = so_far_ends c.args.program.now _ _ c.loop-end.run _ _ _ came.told c.in-Ends.end c.loop-end.invariant.so_far came.appends came.rest in
    record { told = all.told; appends = all.appends; rest = all.rest }

pub returns-in-Ends-clause-faults : goal.returns-in-Ends-clause-faults
returns-in-Ends-clause-faults g c = c.in_ok-advance.ensures.faults ∙ c.loop-end.invariant.faults
