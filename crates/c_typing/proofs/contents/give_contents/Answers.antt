use Rattle.std.proofs.Common.{true}
use Rattle.typing_rules.specs.Source.{Named}
use Rattle.typing_rules.specs.SourceViews.{initial_view}
use Rattle.typing_rules.specs.OrderedDeclarations.{initialized}
use Rattle.c_known.specs.Views.{line_in}
use Rattle.c_known.specs.Gives.{IsDone}
use Rattle.c_known.proofs.Binding.{bind}
use Rattle.c_linkage.proofs.Linked.{linked-later}
use Rattle.c_declarations.specs.Parts.{MeansInitialized}
use Rattle.c_typing.specs.Contents.{contents_agreeing}
use Rattle.c_typing.proofs.Spine.{told-on}
use Rattle.c_typing.proofs.contents.give_contents.Goals as goal

pub returns-in_err-done : goal.returns-in_err-done
returns-in_err-done c t l stands means =
    let at = c.args.at in
    let name : Named = record { line = at.line; bytes = c.args.name.now } in
    told-on MeansInitialized IsDone c.args.known.now _ _ c.in_err-done.field-0.0 (initialized true at.line t (initial_view (line_in at.file) c.args.x.now))
    (contents_agreeing name l c.args.is_first) c.from_residual.result (c.in_err-done.ensures t stands) c.from_residual.ensures.1

pub returns : goal.returns
returns c t l stands means =
    let at = c.args.at in
    let name : Named = record { line = at.line; bytes = c.args.name.now } in
    bind MeansInitialized IsDone c.args.known.now _ _ c.in_ok-done.done c.agree_contents.result (initialized true at.line t (initial_view (line_in at.file) c.args.x.now))
    (contents_agreeing name l c.args.is_first) (c.in_ok-done.ensures t stands)
    (λ i grown is. c.agree_contents.ensures l i (linked-later _ _ grown c.args.linked l means) is)
