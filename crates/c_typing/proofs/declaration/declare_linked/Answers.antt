use Rattle.std.proofs.Common.{option_map}
use Rattle.typing_rules.specs.Source.{Named}
use Rattle.typing_rules.specs.SourceViews.{initial_view}
use Rattle.typing_rules.specs.OrderedDeclarations.{links}
use Rattle.c_entities.specs.Views.{storage_view}
use Rattle.c_known.specs.Views.{line_in}
use Rattle.c_known.specs.Gives.{IsDone}
use Rattle.c_known.specs.Standing.{MeansLinked}
use Rattle.c_known.proofs.Binding.{bind}
use Rattle.c_typing.specs.Steps.{named_so}
use Rattle.c_typing.proofs.Spine.{told-on, stands-later}
use Rattle.c_typing.proofs.declaration.declare_linked.Goals as goal

pub returns-in_err-linked : goal.returns-in_err-linked
returns-in_err-linked c t stands =
    let at = c.args.at in
    let name : Named = record { line = at.line; bytes = c.args.name.now } in
    let x = option_map (initial_view (line_in at.file)) c.args.x.now in
    told-on MeansLinked IsDone c.args.known.now _ _ c.in_err-linked.field-0.0 (links name (storage_view at.storage) t)
    (named_so name (storage_view at.storage) t x) c.from_residual.result (c.in_err-linked.ensures t stands) c.from_residual.ensures.1

pub returns : goal.returns
returns c t stands =
    let at = c.args.at in
    let name : Named = record { line = at.line; bytes = c.args.name.now } in
    let x = option_map (initial_view (line_in at.file)) c.args.x.now in
    bind MeansLinked IsDone c.args.known.now _ _ c.in_ok-linked.linked c.name_so.result (links name (storage_view at.storage) t)
    (named_so name (storage_view at.storage) t x) (c.in_ok-linked.ensures t stands)
    (λ l grown is. c.name_so.ensures t l (stands-later _ _ grown at.ty t stands) is)
