use Rattle.std.proofs.Common.{◌≡◌, false, Ok, Err, Some, ap, sym, ◌∙◌, subst}
use Rattle.std.proofs.lemmas.Result.{err_from_is_err_and}
use Rattle.c_types.specs.Types.{is_void}
use Rattle.c_types.specs.Rules.{conversion_form}
use Rattle.c_types.proofs.Grown.{Extends-refl}
use Rattle.typing_rules.specs.declared.refusal.TypeRefusal.TheVariants.{Mismatch}
use Rattle.typing_rules.specs.Terms.{operand_of, converted_by}
use Rattle.typing_rules.specs.Checking.{◌>>=◌, pure, refuse, ruled_by}
use Rattle.c_values.specs.Stand.{MeansTyped}
use Rattle.c_values.specs.Answers.{value_for}
use Rattle.c_known.specs.Gives.{Gives}
use Rattle.c_known.proofs.Binding.{answers-give, choose-false}
use Rattle.c_statements.specs.Parts.{MeansValueIf}
use Rattle.c_statements.proofs.Giving.{exits, one}
use Rattle.c_statements.proofs.Conversions.{some-value_for}
use Rattle.c_statements.proofs.Views.{some-value}
use Rattle.c_statements.proofs.jump.returned_value.Goals as goal

pub returns-in_err-value : goal.returns-in_err-value
returns-in_err-value c t w stands means =
    let s = c.args.known.now in
    let is : is_void t ≡ false = ap is_void (sym (stands.always s.types (Extends-refl s.types))) ∙ sym c.is_void.ensures ∙ c.if-is_void.false in
    let p = err_from_is_err_and c.from_residual.result c.from_residual.ensures.1 in
    choose-false MeansValueIf s s c.from_residual.result (is_void t) (refuse (Mismatch c.args.line 19))
    (ruled_by c.args.line (conversion_form t (operand_of w.value)) >>= (λ form. pure (Some (converted_by form t w)))) is
    (subst (λ m. Gives MeansValueIf s s c.from_residual.result m) (some-value_for c.args.line t w)
    (exits MeansTyped MeansValueIf s s s c.in_err-value.field-0.0 c.from_residual.result (value_for c.args.line t w) (λ v. pure (Some v)) (p.1 ∙ ap Err p.2)
    (answers-give MeansTyped s (Err c.in_err-value.field-0.0) (value_for c.args.line t w) (c.in_err-value.ensures t w stands means))))

pub returns-in_ok-value : goal.returns-in_ok-value
returns-in_ok-value c t w stands means =
    let s = c.args.known.now in
    let is : is_void t ≡ false = ap is_void (sym (stands.always s.types (Extends-refl s.types))) ∙ sym c.is_void.ensures ∙ c.if-is_void.false in
    choose-false MeansValueIf s s (Ok (Some c.into_inner.result)) (is_void t) (refuse (Mismatch c.args.line 19))
    (ruled_by c.args.line (conversion_form t (operand_of w.value)) >>= (λ form. pure (Some (converted_by form t w)))) is
    (subst (λ m. Gives MeansValueIf s s (Ok (Some c.into_inner.result)) m) (some-value_for c.args.line t w)
    (one MeansTyped MeansValueIf s s c.in_ok-value.value (Some c.into_inner.result) (value_for c.args.line t w) (λ v. Some v)
    (answers-give MeansTyped s (Ok c.in_ok-value.value) (value_for c.args.line t w) (c.in_ok-value.ensures t w stands means))
    (λ v m. subst (λ x. MeansValueIf s.types (Some x) (Some v)) (sym c.into_inner.ensures) (some-value s.types c.in_ok-value.value.value v m.value))))
