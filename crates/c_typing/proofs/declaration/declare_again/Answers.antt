use Rattle.std.proofs.Common.{option_map}
use Rattle.typing_rules.specs.Known.{type_of_predeclared}
use Rattle.typing_rules.specs.SourceViews.{initial_view}
use Rattle.c_values.specs.Answers.{predeclared_view}
use Rattle.c_known.specs.Views.{line_in}
use Rattle.c_known.specs.Gives.{IsDone}
use Rattle.c_typing.specs.Steps.{declared_same}
use Rattle.c_typing.proofs.Spine.{stands-later, grown-gives}
use Rattle.c_typing.proofs.declaration.declare_again.Goals as goal

pub returns-in-Ok : goal.returns-in-Ok
returns-in-Ok c t bytes stands =
    let s = c.args.known.now in
    let at = c.args.at in
    let type = type_of_predeclared (predeclared_view c.args.of) in
    grown-gives IsDone s _ _ c.declare_same.result (declared_same at.line t type (option_map (initial_view (line_in at.file)) c.args.x.now)) c.in-Ok.ensures.kept
    (c.declare_same.ensures t type (stands-later _ _ c.in-Ok.ensures.kept at.ty t stands) c.in-Ok.ensures.made)
