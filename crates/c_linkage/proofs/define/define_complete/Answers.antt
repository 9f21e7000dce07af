use Rattle.std.proofs.Common.{ap}
use Rattle.std.proofs.lemmas.Result.{err_from_is_err_and}
use Rattle.c_types.proofs.Grown.{Extends-refl}
use Rattle.c_known.specs.Gives.{IsDone}
use Rattle.c_linkage.proofs.Linked.{linked-later, linked-type}
use Rattle.c_linkage.proofs.Declared.{complete-by, complete-told}
use Rattle.c_linkage.proofs.define.define_complete.Goals as goal

pub returns-in_err-is_first : goal.returns-in_err-is_first
returns-in_err-is_first c l means =
    let s = c.args.known.now in
    let p = err_from_is_err_and c.from_residual.result c.from_residual.ensures.1 in
    rw (p.1, p.2) (complete-told s _ c.defines.new.known c.args.line c.args.linked.entity c.in_err-is_first.field-0.0 IsDone l
    (ap (λ z. z.entity) (means.always s.types (Extends-refl s.types))) c.in_err-is_first.ensures)

pub returns : goal.returns
returns c l means =
    let s = c.args.known.now in
    complete-by s _ _ c.args.line c.args.linked.entity c.in_ok-is_first.is_first c.count_if.result IsDone l
    (ap (λ z. z.entity) (means.always s.types (Extends-refl s.types))) c.in_ok-is_first.ensures
    (λ grown. c.count_if.ensures l.type (linked-type _ c.args.linked l (linked-later s.types _ grown c.args.linked l means)))
