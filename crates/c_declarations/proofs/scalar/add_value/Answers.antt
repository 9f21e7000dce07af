use Rattle.typing_rules.specs.SourceViews.{expr_view}
use Rattle.c_known.specs.Views.{line_in}
use Rattle.c_terms.proofs.Paths.{stands-later}
use Rattle.c_declarations.proofs.Adding.{value-adds, value-refused}
use Rattle.c_declarations.proofs.scalar.add_value.Goals as goal

pub returns-in-Ok : goal.returns-in-Ok
returns-in-Ok c t i h e =
    value-adds c.args.cells.now.items c.add_converted.new.cells.items c.args.known.now c.value_of.new.known c.in-Ok.a c.add_converted.result c.args.object.is_static c.args.object.at t i
    (expr_view (line_in c.args.object.file) c.args.e.now) c.in-Ok.ensures
    (λ w more mw. c.add_converted.ensures t w i (stands-later more h) mw e)

pub returns-in-Err : goal.returns-in-Err
returns-in-Err c t i h e =
    value-refused c.args.cells.now.items c.args.cells.now.items c.args.known.now c.value_of.new.known c.in-Err.refusal c.args.object.is_static c.args.object.at t i
    (expr_view (line_in c.args.object.file) c.args.e.now) c.in-Err.ensures
