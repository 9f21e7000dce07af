use Rattle.std.proofs.Common.{None, sym, ap, ◌∙◌, subst}
use Rattle.c_types.specs.Types.{array}
use Rattle.c_types.specs.Table.{type_at, Stands}
use Rattle.typing_rules.specs.SourceViews.{initial_view}
use Rattle.typing_rules.specs.DeclarationRules.{completed, length_given}
use Rattle.c_known.specs.Views.{line_in}
use Rattle.c_known.specs.Gives.{Gives}
use Rattle.c_declarations.specs.Cells.{counted, type_sized}
use Rattle.c_declarations.proofs.Shapes.{kept-type, none-there, is-there}
use Rattle.c_declarations.proofs.completed.with_length.Goals as goal

pub returns-in-None : goal.returns-in-None
returns-in-None c t h is =
    let s = c.args.known.now in
    let x = initial_view (line_in c.args.object.file) c.args.x.now in
    let u = type_at s.types c.args.element.target in
    kept-type s c.sized.result c.args.object.at t (array c.args.element.qualifiers u None) x is
    (ap (array c.args.element.qualifiers u) (none-there counted (length_given u x) (c.in-None.ensures (line_in c.args.object.file)))) (c.sized.ensures t h)

pub returns-in-Some : goal.returns-in-Some
returns-in-Some c t h is =
    let s = c.args.known.now in
    let x = initial_view (line_in c.args.object.file) c.args.x.now in
    let u = type_at s.types c.args.element.target in
    let there = is-there counted c.in-Some.length (length_given u x) (c.in-Some.ensures (line_in c.args.object.file)) in
    subst (λ y. Gives Stands s c.of_length.new.known c.of_length.result (type_sized c.args.object.at y)) (sym (ap (λ y. completed y x) is ∙ ap (array c.args.element.qualifiers u) there.is))
    (c.of_length.ensures there.number there.stands)
