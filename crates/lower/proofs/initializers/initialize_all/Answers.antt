use Rattle.std.proofs.Common.{Ok}
use Rattle.lower.specs.Emits.{types_of, inside_view}
use Rattle.lower.proofs.Cells.{locals-next, locals-done}
use Rattle.lower.proofs.Steps.{step, stop, given, exits, same-making}
use Rattle.lower.proofs.initializers.initialize_all.Goals as goal

pub loop-local-preserved : goal.loop-local-preserved
loop-local-preserved c = λ final r h.
    c.loop-local.invariant final r
    (step _ (locals-next (inside_view c.args.at) (types_of c.args.at) c.args.locals.now c.loop-local.local-index c.local-item.result c.loop-local-test.true
    c.local-item.is) c.in_ok-initialize.ensures h)

pub returns-in_err-initialize : goal.returns-in_err-initialize
returns-in_err-initialize c =
    c.loop-local.invariant _ _
    (stop _ (locals-next (inside_view c.args.at) (types_of c.args.at) c.args.locals.now c.loop-local.local-index c.local-item.result c.loop-local-test.true
    c.local-item.is) (exits c.from_residual.result _ c.from_residual.ensures.1) c.in_err-initialize.ensures)

pub returns : goal.returns
returns c =
    c.loop-local.invariant c.loop-local.out (Ok tt)
    (same-making (locals-done (inside_view c.args.at) (types_of c.args.at) c.args.locals.now c.loop-local.local-index c.loop-local-test.false) given)
