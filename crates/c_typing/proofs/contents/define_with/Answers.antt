use Rattle.std.proofs.Common.{Bool as Test, Ok, Err, ap, subst}
use Rattle.c_types.proofs.Grown.{Extends-refl}
use Rattle.typing_rules.specs.Source.{Named}
use Rattle.typing_rules.specs.SourceViews.{initial_view}
use Rattle.typing_rules.specs.DeclarationRules.{fully}
use Rattle.typing_rules.specs.OrderedUnits.{defines}
use Rattle.c_known.specs.Views.{line_in}
use Rattle.c_known.specs.Gives.{Gives, IsDone, IsSame}
use Rattle.c_known.proofs.Binding.{bind}
use Rattle.c_known.proofs.Growing.{stands-for-later}
use Rattle.c_linkage.proofs.Linked.{linked-later}
use Rattle.c_typing.specs.Contents.{defined_then}
use Rattle.c_typing.proofs.Spine.{told-on}
use Rattle.c_typing.proofs.contents.define_with.Goals as goal

pub returns-in_err-is_first : goal.returns-in_err-is_first
returns-in_err-is_first c t l stands means =
    let s = c.args.known.now in
    let at = c.args.at in
    let mid = c.defines.new.known in
    let e = c.in_err-is_first.field-0.0 in
    let name : Named = record { line = at.line; bytes = c.args.name.now } in
    told-on (IsSame {A = Test}) IsDone s mid mid e (defines fully at.line l.entity) (defined_then name l t (initial_view (line_in at.file) c.args.x.now)) c.from_residual.result
    (subst (λ n. Gives {X = Test} {A = Test} IsSame s mid (Err e) (defines fully at.line n)) (ap (λ z. z.entity) (means.always s.types (Extends-refl s.types))) c.in_err-is_first.ensures)
    c.from_residual.ensures.1

pub returns : goal.returns
returns c t l stands means =
    let s = c.args.known.now in
    let at = c.args.at in
    let mid = c.defines.new.known in
    let new = c.define_then.new.known in
    let first = c.in_ok-is_first.is_first in
    let name : Named = record { line = at.line; bytes = c.args.name.now } in
    let x = initial_view (line_in at.file) c.args.x.now in
    bind (IsSame {A = Test}) IsDone s mid new first c.define_then.result (defines fully at.line l.entity) (defined_then name l t x)
    (subst (λ n. Gives (IsSame {A = Test}) s mid (Ok first) (defines fully at.line n)) (ap (λ z. z.entity) (means.always s.types (Extends-refl s.types))) c.in_ok-is_first.ensures)
    (λ b grown is. subst (λ z. Gives IsDone mid new c.define_then.result (defined_then name l t x z)) is
    (c.define_then.ensures t l (stands-for-later grown stands) (linked-later _ _ grown c.args.linked l means)))
