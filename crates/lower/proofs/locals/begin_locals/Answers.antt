use Rattle.std.proofs.Common.{◌+◌, drop, Ok}
use Rattle.lower.specs.Emits.{rows_of, types_of, inside_view}
use Rattle.lower.proofs.Steps.{exits}
use Rattle.lower.proofs.LocalSteps.{numbers, numbers-at, numbers-done, one-begins, one-stops, none-begin}
use Rattle.lower.proofs.locals.begin_locals.Goals as goal

pub loop-local-preserved : goal.loop-local-preserved
loop-local-preserved c = λ new r h.
    c.loop-local.invariant new r
    (one-begins (inside_view c.args.at) (rows_of c.args.at) c.loop-local.body c.begin_local.new.body new c.local-item.result.number
    (numbers (types_of c.args.at) (drop (c.loop-local.local-index + 1) c.args.locals.now))
    (numbers (types_of c.args.at) (drop c.loop-local.local-index c.args.locals.now))
    (numbers-at (types_of c.args.at) c.args.locals.now c.loop-local.local-index c.local-item.result c.loop-local-test.true c.local-item.is)
    c.in_ok-begin_local.ensures h)

pub returns-in_err-begin_local : goal.returns-in_err-begin_local
returns-in_err-begin_local c =
    c.loop-local.invariant _ _
    (one-stops (inside_view c.args.at) (rows_of c.args.at) c.loop-local.body c.begin_local.new.body c.begin_local.new.body c.local-item.result.number
    (numbers (types_of c.args.at) (drop (c.loop-local.local-index + 1) c.args.locals.now))
    (numbers (types_of c.args.at) (drop c.loop-local.local-index c.args.locals.now))
    (numbers-at (types_of c.args.at) c.args.locals.now c.loop-local.local-index c.local-item.result c.loop-local-test.true c.local-item.is)
    (exits c.from_residual.result _ c.from_residual.ensures.1) c.in_err-begin_local.ensures)

pub returns : goal.returns
returns c =
    c.loop-local.invariant c.loop-local.body (Ok tt)
    (none-begin (inside_view c.args.at) (rows_of c.args.at) c.loop-local.body (numbers (types_of c.args.at) (drop c.loop-local.local-index c.args.locals.now))
    (numbers-done (types_of c.args.at) c.args.locals.now c.loop-local.local-index c.loop-local-test.false))
