use Rattle.std.proofs.Common.{◌∙◌, ℕ, Option, Err, refl, subst, arith}
use Rattle.std.proofs.lemmas.Result.{err_from_is_err_and}
use Rattle.srmt_base.specs.declared.trap.SourceEnd.{SourceEnd}
use Rattle.c_meaning.specs.Ending.{Faulted, rest_from, Reached}
use Rattle.c_meaning.specs.Runs.{turns_of}
use Rattle.c_meaning.proofs.Endings.{same_fault, so_far_at_first, so_far_on, so_far_ends, so_far_stopped}
use Rattle.c_meaning.proofs.running.to_end.Goals as goal

pub loop-init : goal.loop-init
loop-init g c =
    let few = c.requires.turns in
    record {
      so_far = so_far_at_first c.args.program.now c.args.run.now (g.O.Outlet.events c.args.outlet.now);
      sound = c.requires.sound;
      turns = omega (arith, few);
      faults = refl;
    }

pub until_turn-requires-clause-sound : goal.until_turn-requires-clause-sound
until_turn-requires-clause-sound g c = c.loop.invariant.sound

pub returns-in_err-end-clause-stopped : goal.returns-in_err-end-clause-stopped
returns-in_err-end-clause-stopped g c =
    let p = err_from_is_err_and c.from_residual.result c.from_residual.ensures.1 in
    rw p.1 (so_far_stopped c.args.program.now _ _ c.loop.run _ _ _ c.loop.invariant.so_far c.in_err-end.ensures.stopped)

pub returns-in_err-end-clause-faults : goal.returns-in_err-end-clause-faults
returns-in_err-end-clause-faults g c =
    let p = err_from_is_err_and c.from_residual.result c.from_residual.ensures.1 in
    rw (p.1, p.2) (subst (λ (n : ℕ). Faulted {A = SourceEnd} (Err c.in_err-end.field-0.0) n (g.O.Outlet.faults c.until_turn.new.outlet)) c.loop.invariant.faults
    (same_fault (Option SourceEnd) SourceEnd c.in_err-end.field-0.0 _ _ c.in_err-end.ensures.faults))

pub returns-in-Some-clause-ended : goal.returns-in-Some-clause-ended
returns-in-Some-clause-ended g c =
    let reached = subst (Reached c.args.program.now (rest_from c.args.program.now c.loop.run) (turns_of c.loop.run.world.budgets) c.until_turn.new.run _ _) c.in-Some.is c.in_ok-end.ensures.reached in
    so_far_ends c.args.program.now _ _ c.loop.run _ _ _ reached.told c.in-Some.end c.loop.invariant.so_far reached.appends reached.rest

pub returns-in-Some-clause-faults : goal.returns-in-Some-clause-faults
returns-in-Some-clause-faults g c = c.in_ok-end.ensures.faults ∙ c.loop.invariant.faults

pub loop-preserved : goal.loop-preserved
loop-preserved g c =
    let reached = subst (Reached c.args.program.now (rest_from c.args.program.now c.loop.run) (turns_of c.loop.run.world.budgets) c.until_turn.new.run _ _) c.in_default.is c.in_ok-end.ensures.reached in
    let spent = reached.rest.1 in
    let few = c.loop.invariant.turns in
    record {
      so_far = so_far_on c.args.program.now _ _ c.loop.run c.until_turn.new.run _ _ _ reached.told c.loop.invariant.so_far reached.appends reached.rest.0 (omega (arith, spent));
      sound = c.in_ok-end.ensures.sound;
      turns = omega (arith, spent, few);
      faults = c.in_ok-end.ensures.faults ∙ c.loop.invariant.faults;
    }

pub unreachable-requires : goal.unreachable-requires
unreachable-requires g c =
    let few = c.loop.invariant.turns in
    omega (arith, few, c.loop-test.false)
