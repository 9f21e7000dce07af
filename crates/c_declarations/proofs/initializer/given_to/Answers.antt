use Rattle.std.proofs.Common.{subst}
use Rattle.std.proofs.lemmas.Bool.{OnTrue_at}
use Rattle.typing_rules.specs.SourceViews.{initial_view}
use Rattle.c_known.specs.Views.{line_in}
use Rattle.c_declarations.specs.Cells.{AreExact}
use Rattle.c_declarations.proofs.Completing.{with-cells}
use Rattle.c_declarations.proofs.initializer.given_to.Goals as goal

pub returns-then-are_exact : goal.returns-then-are_exact
returns-then-are_exact c t cs h are =
    with-cells c.args.known.now c.completed.new.known c.in-Ok.target c.args.object.at t (initial_view (line_in c.args.object.file) c.args.x.now) c.args.ty.qualifiers c.args.given cs
    h.qualifiers are (subst AreExact c.as_slice.ensures.value (OnTrue_at c.if-are_exact.true c.are_exact.ensures)) (c.in-Ok.ensures t.type h.type)
