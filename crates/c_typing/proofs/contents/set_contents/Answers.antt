use Rattle.std.proofs.Common.{Ok, Err, ap, subst}
use Rattle.std.specs.Bool.{⊤}
use Rattle.c_types.proofs.Grown.{Extends-refl}
use Rattle.typing_rules.specs.Known.{linked, with_file_meaning}
use Rattle.typing_rules.specs.DeclarationRules as rule
use Rattle.typing_rules.specs.Checking.{makes}
use Rattle.c_entities.specs.Changes.{started}
use Rattle.c_known.specs.Gives.{Gives, IsDone}
use Rattle.c_known.proofs.Binding.{bind}
use Rattle.c_known.proofs.Growing.{stands-for-later}
use Rattle.c_linkage.proofs.Linked.{linked-later}
use Rattle.c_typing.proofs.Spine.{told-on}
use Rattle.c_typing.proofs.contents.set_contents.Goals as goal

pub returns-in_err-start_object : goal.returns-in_err-start_object
returns-in_err-start_object c l i means given =
    let s = c.args.known.now in
    let mid = c.start_object.new.known in
    let e = c.in_err-start_object.field-0.0 in
    let same = ap (λ z. z.entity) (means.always s.types (Extends-refl s.types)) in
    told-on IsDone IsDone s mid mid e (makes (started l.entity i.type (rule.starts_of i.given)))
    (λ done. makes (with_file_meaning c.args.name.now (linked l.entity (rule.composed l.type i.type)))) c.from_residual.result
    (subst (λ n. Gives {X = ⊤} {A = Unit {0}} IsDone s mid (Err e) (makes (started n i.type (rule.starts_of i.given)))) same (c.in_err-start_object.ensures i given))
    c.from_residual.ensures.1

pub returns : goal.returns
returns c l i means given =
    let s = c.args.known.now in
    let mid = c.start_object.new.known in
    let new = c.complete_name.new.known in
    let same = ap (λ z. z.entity) (means.always s.types (Extends-refl s.types)) in
    bind IsDone IsDone s mid new tt c.complete_name.result (makes (started l.entity i.type (rule.starts_of i.given)))
    (λ done. makes (with_file_meaning c.args.name.now (linked l.entity (rule.composed l.type i.type))))
    (subst (λ n. Gives {X = ⊤} {A = Unit {0}} IsDone s mid (Ok tt) (makes (started n i.type (rule.starts_of i.given)))) same (c.in_ok-start_object.ensures i given))
    (λ done grown is. c.complete_name.ensures l i.type (linked-later _ _ grown c.args.linked l means) (stands-for-later grown given.type))
