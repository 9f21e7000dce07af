use Rattle.std.proofs.Common.{option_map}
use Rattle.typing_rules.specs.Source.{Named}
use Rattle.typing_rules.specs.SourceViews.{initial_view}
use Rattle.typing_rules.specs.Known.{with_file_meaning, linked}
use Rattle.typing_rules.specs.Checking.{makes}
use Rattle.c_entities.specs.Views.{storage_view}
use Rattle.c_known.specs.Views.{line_in}
use Rattle.c_known.specs.Gives.{IsDone}
use Rattle.c_known.proofs.Binding.{bind}
use Rattle.c_linkage.proofs.Linked.{linked-later}
use Rattle.c_typing.specs.Steps.{declared_so}
use Rattle.c_typing.proofs.Spine.{told-on, stands-later}
use Rattle.c_typing.proofs.declaration.name_so.Goals as goal

pub returns-in_err-declare_at_file : goal.returns-in_err-declare_at_file
returns-in_err-declare_at_file c t l stands means =
    let at = c.args.at in
    let name : Named = record { line = at.line; bytes = c.args.name.now } in
    let x = option_map (initial_view (line_in at.file)) c.args.x.now in
    told-on IsDone IsDone c.args.known.now _ _ c.in_err-declare_at_file.field-0.0 (makes (with_file_meaning c.args.name.now (linked l.entity l.type)))
    (λ done. declared_so name (storage_view at.storage) t x l) c.from_residual.result (c.in_err-declare_at_file.ensures l means) c.from_residual.ensures.1

pub returns : goal.returns
returns c t l stands means =
    let at = c.args.at in
    let name : Named = record { line = at.line; bytes = c.args.name.now } in
    let x = option_map (initial_view (line_in at.file)) c.args.x.now in
    bind IsDone IsDone c.args.known.now _ _ tt c.declare_so.result (makes (with_file_meaning c.args.name.now (linked l.entity l.type)))
    (λ done. declared_so name (storage_view at.storage) t x l) (c.in_ok-declare_at_file.ensures l means)
    (λ done grown is. c.declare_so.ensures t l (stands-later _ _ grown at.ty t stands) (linked-later _ _ grown c.args.linked l means))
