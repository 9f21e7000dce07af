use Rattle.std.proofs.Common.{ℕ, ap, subst}
use Rattle.c_types.proofs.Grown.{Extends-refl}
use Rattle.typing_rules.specs.Known.{with_file_meaning, linked}
use Rattle.typing_rules.specs.Checking.{makes}
use Rattle.c_known.specs.Gives.{Gives, IsDone, IsSame}
use Rattle.c_known.proofs.Binding.{bind}
use Rattle.c_typing.specs.Functions.{begun_defined}
use Rattle.c_typing.proofs.Spine.{told-on, stands-later}
use Rattle.c_typing.proofs.begin.begin_named.Goals as goal

pub returns-in_err-declare_at_file : goal.returns-in_err-declare_at_file
returns-in_err-declare_at_file c t l stands means =
    told-on IsDone (IsSame {A = ℕ}) c.args.known.now _ _ c.in_err-declare_at_file.field-0.0 (makes (with_file_meaning c.args.name.now (linked l.entity l.type)))
    (λ done. begun_defined c.args.at.line t l.entity) c.from_residual.result (c.in_err-declare_at_file.ensures l means) c.from_residual.ensures.1

pub returns : goal.returns
returns c t l stands means =
    let s = c.args.known.now in
    let same = ap (λ z. z.entity) (means.always s.types (Extends-refl s.types)) in
    bind IsDone (IsSame {A = ℕ}) s c.declare_at_file.new.self c.begin_defined.new.known tt c.begin_defined.result (makes (with_file_meaning c.args.name.now (linked l.entity l.type)))
    (λ done. begun_defined c.args.at.line t l.entity) (c.in_ok-declare_at_file.ensures l means)
    (λ done grown is. subst (λ n. Gives (IsSame {A = ℕ}) c.declare_at_file.new.self c.begin_defined.new.known c.begin_defined.result (begun_defined c.args.at.line t n)) same
    (c.begin_defined.ensures t (stands-later _ _ grown c.args.at.ty t stands)))
