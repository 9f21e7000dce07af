use Rattle.std.proofs.Common.{Ok, Err}
use Rattle.c_values.specs.Stand.{MeansTyped}
use Rattle.c_values.specs.Answers.{value_for}
use Rattle.c_known.proofs.Binding.{bind, told, answers-give}
use Rattle.c_declarations.specs.Cells.{Added, scalar_cell}
use Rattle.c_declarations.proofs.scalar.add_converted.Goals as goal

pub returns-in-Ok : goal.returns-in-Ok
returns-in-Ok c t w i h m e =
    let s = c.args.known.now in
    let found = value_for c.args.object.at t w in
    bind MeansTyped (Added c.args.cells.now.items c.add_scalar.new.cells.items) s s s c.in-Ok.value c.add_scalar.result found (scalar_cell c.args.object.is_static c.args.object.at i)
    (answers-give MeansTyped s (Ok c.in-Ok.value) found (c.in-Ok.ensures t w h m))
    (λ v more mv. c.add_scalar.ensures v i mv e)

pub returns-in-Err : goal.returns-in-Err
returns-in-Err c t w i h m e =
    let s = c.args.known.now in
    let found = value_for c.args.object.at t w in
    told MeansTyped (Added c.args.cells.now.items c.args.cells.now.items) s s s c.in-Err.refusal found (scalar_cell c.args.object.is_static c.args.object.at i)
    (answers-give MeansTyped s (Err c.in-Err.refusal) found (c.in-Err.ensures t w h m))
