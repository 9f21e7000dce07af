use Rattle.std.proofs.Common.{ℕ, suc, nat_le}
use Rattle.typing_rules.specs.declared.refusal.TypeRefusal.TheVariants.{TooLarge}
use Rattle.typing_rules.specs.declared.refusal.Size.TheVariants.{Functions}
use Rattle.typing_rules.specs.Limits.{most_functions}
use Rattle.typing_rules.specs.Checking.{tests}
use Rattle.c_known.specs.Gives.{IsDone, IsSame}
use Rattle.c_known.proofs.Binding.{bind}
use Rattle.c_typing.specs.Functions.{begun_typed}
use Rattle.c_typing.proofs.Spine.{told-on}
use Rattle.c_typing.proofs.begin.begin_counted.Goals as goal

pub returns-in_err-has_room_for_function : goal.returns-in_err-has_room_for_function
returns-in_err-has_room_for_function c t stands =
    told-on IsDone (IsSame {A = ℕ}) c.args.known.now _ _ c.in_err-has_room_for_function.field-0.0
    (tests (λ k. nat_le (suc k.functions) most_functions) (TooLarge c.args.at.line Functions)) (λ done. begun_typed c.args.at.line t c.args.entity)
    c.from_residual.result c.in_err-has_room_for_function.ensures c.from_residual.ensures.1

pub returns : goal.returns
returns c t stands =
    bind IsDone (IsSame {A = ℕ}) c.args.known.now c.args.known.now _ tt c.begin_typed.result
    (tests (λ k. nat_le (suc k.functions) most_functions) (TooLarge c.args.at.line Functions)) (λ done. begun_typed c.args.at.line t c.args.entity)
    c.in_ok-has_room_for_function.ensures (λ done grown is. c.begin_typed.ensures t stands)
