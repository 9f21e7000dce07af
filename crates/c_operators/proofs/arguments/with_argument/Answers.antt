use Rattle.std.proofs.Common.{◌≡◌, [], ◌∷◌, ◌++◌, List, Result, Ok, Err, sym, ap, subst}
use Rattle.std.proofs.lemmas.Result.{err_from_is_err_and, IfOk-weaker}
use Rattle.c_typed.specs.Typed.{no_values, first_value}
use Rattle.typing_rules.specs.Checking.{pure}
use Rattle.c_values.specs.Stand.{MeansTyped, MeansValue}
use Rattle.c_values.specs.Answers.{MeanValues, value_for}
use Rattle.c_operators.specs.Arguments.{joined}
use Rattle.c_values.proofs.Answering.{bind-answers, told-answers, made-answers}
use Rattle.c_operators.proofs.Passing.{more-mean}
use Rattle.c_operators.proofs.arguments.with_argument.Goals as goal

pub returns-in_err-value : goal.returns-in_err-value
returns-in_err-value c t w vs stands m n =
    let rows = c.args.types.now in
    let p = err_from_is_err_and c.from_residual.result c.from_residual.ensures.1 in
    rw (p.1, p.2)
    (told-answers (MeansTyped rows) (MeanValues rows) c.in_err-value.field-0.0 (value_for c.args.at t w) (λ u. pure (joined vs (first_value u no_values)))
    (c.in_err-value.ensures t w stands m))

pub returns : goal.returns
returns c t w vs stands m n =
    let rows = c.args.types.now in
    bind-answers (MeansTyped rows) (MeanValues rows) c.in_ok-value.value c.or_memory.result (value_for c.args.at t w) (λ u. pure (joined vs (first_value u no_values)))
    (c.in_ok-value.ensures t w stands m)
    (λ u means. made-answers (MeanValues rows) c.or_memory.result c.appended.result (joined vs (first_value u no_values)) c.or_memory.ensures
    (IfOk-weaker c.appended.result _ _ (λ r e. subst (λ z. MeanValues rows z (joined vs (first_value u no_values))) (sym e)
    (more-mean rows c.args.found c.value_of.result vs u n (subst (λ z. MeansValue rows z u) (sym c.value_of.ensures) means.value))) c.appended.ensures))
