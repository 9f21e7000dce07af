use Rattle.std.proofs.Common.{arith, [], Ok, map, ap}
use Rattle.c_types.specs.Table.{type_at}
use Rattle.c_typed.specs.StatementViews.{function_view}
use Rattle.c_known.specs.Views.{line_in}
use Rattle.c_typing.proofs.Externals.{from-none, externals-step, externals-told, externals-end}
use Rattle.c_typing.proofs.file.externals.Goals as goal

pub loop-x-init : goal.loop-x-init
loop-x-init c new r rest =
    from-none (line_in c.args.file) c.args.xs.now c.args.known.now new r (rest [] (record { always = λ later more. ap (map (function_view (type_at later))) c.new-made.ensures }))

pub loop-x-preserved : goal.loop-x-preserved
loop-x-preserved c new r rest =
    c.loop-x.invariant new r (λ fs are.
    externals-step (line_in c.args.file) c.args.xs.now c.loop-x.x-index c.loop-x.known c.check_external.new.known new c.check_external.new.made r c.x-item.result fs
    (omega arith) c.x-item.is (c.in_ok-check_external.ensures fs are) rest)

pub returns : goal.returns
returns c =
    c.loop-x.invariant c.loop-x.known (Ok c.loop-x.made) (λ fs are.
    externals-end (line_in c.args.file) c.args.xs.now c.loop-x.x-index c.loop-x.known c.loop-x.made fs (omega arith) are)

pub returns-in_err-check_external : goal.returns-in_err-check_external
returns-in_err-check_external c =
    c.loop-x.invariant c.check_external.new.known c.from_residual.result (λ fs are.
    externals-told (line_in c.args.file) c.args.xs.now c.loop-x.x-index c.loop-x.known c.check_external.new.known c.check_external.new.known c.check_external.new.made
    c.from_residual.result c.x-item.result fs c.in_err-check_external.field-0.0 (omega arith) c.x-item.is (c.in_err-check_external.ensures fs are) c.from_residual.ensures.1)
