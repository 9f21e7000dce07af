use Rattle.std.proofs.Common.{Option, false, Ok, sym, subst}
use Rattle.std.specs.Prelude.{option_map}
use Rattle.c_tree.specs.declared.declaration.Initializer as tree_initializer
use Rattle.typing_rules.specs.SourceViews.{initial_view}
use Rattle.typing_rules.specs.OrderedDeclarations.{initialized, local_initialized}
use Rattle.c_known.specs.Views.{line_in}
use Rattle.c_known.specs.Gives.{Gives}
use Rattle.c_known.proofs.Binding.{bind}
use Rattle.c_declarations.specs.Parts.{MeansInitialized, MeansInitializerIf, completes}
use Rattle.c_declarations.proofs.object.local_initialized.Goals as goal

pub returns-in-Ok : goal.returns-in-Ok
returns-in-Ok c t h =
    let shift = line_in c.args.file in
    subst (λ (x : Option tree_initializer.Initializer). Gives MeansInitializerIf c.args.known.now c.completed.new.known (Ok c.completed.result) (local_initialized c.args.at c.args.number t (option_map (initial_view shift) x))) (sym c.in-Some.is)
    (bind MeansInitialized MeansInitializerIf c.args.known.now c.cells_given.new.known c.completed.new.known c.in-Ok.done (Ok c.completed.result) (initialized false c.args.at t (initial_view shift c.in-Some.x)) (completes c.args.number)
    (c.in-Ok.ensures t h) (λ i more means. c.completed.ensures i means))
