use Rattle.std.proofs.Common.{Bool as Test, Ok, subst}
use Rattle.std.specs.Bool.{⊤}
use Rattle.typing_rules.specs.Source.{Named}
use Rattle.typing_rules.specs.SourceViews.{initial_view}
use Rattle.typing_rules.specs.Checking.{◌>>◌}
use Rattle.typing_rules.specs.OrderedUnits.{counted_if}
use Rattle.c_known.specs.Views.{line_in}
use Rattle.c_known.specs.Gives.{Gives, IsDone}
use Rattle.c_known.proofs.Binding.{bind}
use Rattle.c_known.proofs.Growing.{stands-for-later}
use Rattle.c_linkage.proofs.Linked.{linked-type, linked-later}
use Rattle.c_typing.specs.Contents.{contents_given}
use Rattle.c_typing.proofs.Spine.{told-on}
use Rattle.c_typing.proofs.contents.define_then.Goals as goal

pub returns-in_err-count_if : goal.returns-in_err-count_if
returns-in_err-count_if c t l stands means =
    let s = c.args.known.now in
    let at = c.args.at in
    let mid = c.count_if.new.known in
    let e = c.in_err-count_if.field-0.0 in
    let name : Named = record { line = at.line; bytes = c.args.name.now } in
    let x = initial_view (line_in at.file) c.args.x.now in
    subst (λ (b : Test). Gives {X = ⊤} {A = Unit {0}} IsDone s mid c.from_residual.result (counted_if b at.line l.type >> contents_given name l t x c.args.is_first)) (c.counts_before-counts.ensures l means)
    (told-on IsDone IsDone s mid mid e (counted_if c.counts_before-counts.result at.line l.type) (λ done. contents_given name l t x c.args.is_first) c.from_residual.result
    (c.in_err-count_if.ensures l.type (linked-type s.types c.args.linked l means)) c.from_residual.ensures.1)

pub returns : goal.returns
returns c t l stands means =
    let s = c.args.known.now in
    let at = c.args.at in
    let mid = c.count_if.new.known in
    let name : Named = record { line = at.line; bytes = c.args.name.now } in
    let x = initial_view (line_in at.file) c.args.x.now in
    bind IsDone IsDone s mid c.give_contents.new.known tt c.give_contents.result (counted_if _ at.line l.type) (λ done. contents_given name l t x c.args.is_first)
    (subst (λ (b : Test). Gives {X = ⊤} {A = Unit {0}} IsDone s mid (Ok tt) (counted_if b at.line l.type)) (c.counts_before-counts.ensures l means) (c.in_ok-count_if.ensures l.type (linked-type s.types c.args.linked l means)))
    (λ done grown is. c.give_contents.ensures t l (stands-for-later grown stands) (linked-later _ _ grown c.args.linked l means))
