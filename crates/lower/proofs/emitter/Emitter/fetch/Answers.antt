use Rattle.std.proofs.Common.{refl}
use Rattle.lower.specs.Emits.{located_view}
use Rattle.lower.proofs.Accesses.{load-told}
use Rattle.lower.proofs.Steps.{step, stop, exits, given, same-making}
use Rattle.lower.proofs.emitter.Emitter.fetch.Goals as goal

-- src/places.rt:50:22
pub returns-in_err-target : goal.returns-in_err-target
returns-in_err-target c = stop _ refl (exits c.from_residual.result _ c.from_residual.ensures.1) (c.in_err-target.ensures)

-- src/places.rt:52:9
pub returns-in_err-emit : goal.returns-in_err-emit
returns-in_err-emit c =
    step _ refl (c.in_ok-target.ensures) (stop _ refl (exits c.from_residual-in_err-emit.result _ c.from_residual-in_err-emit.ensures.1)
    (same-making (load-told (located_view c.args.located) c.args.line c.in_ok-target.target c.load_of-told.result c.load_of-told.ensures)
    (c.in_err-emit.ensures _)))

-- src/places.rt:37:5
pub returns : goal.returns
returns c =
    step _ refl (c.in_ok-target.ensures) (step _ refl
    (same-making (load-told (located_view c.args.located) c.args.line c.in_ok-target.target c.load_of-told.result c.load_of-told.ensures)
    (c.in_ok-emit.ensures _)) given)
