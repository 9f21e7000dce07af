use Rattle.std.proofs.Common.{ap}
use Rattle.std.specs.Prelude.{option_map}
use Rattle.std.specs.Option.{option_copied}
use Rattle.c_typed.specs.Views.{value_view}
use Rattle.lower.specs.Statements.{tested}
use Rattle.lower.specs.Emits.{types_of, inside_view}
use Rattle.lower.proofs.Steps.{step, stop, given, exits, same-making}
use Rattle.lower.proofs.loops.test.Goals as goal

pub returns-in_err-value-in-Some : goal.returns-in_err-value-in-Some
returns-in_err-value-in-Some c =
    stop _ (ap (λ e. tested (inside_view c.args.at) (option_map (value_view (types_of c.args.at)) (option_copied e))) c.in-Some.is)
    (exits c.from_residual.result _ c.from_residual.ensures.1) c.in_err-value-in-Some.ensures

pub returns-in-None : goal.returns-in-None
returns-in-None c =
    same-making (ap (λ e. tested (inside_view c.args.at) (option_map (value_view (types_of c.args.at)) (option_copied e))) c.in-None.is) given

pub returns-in_ok-value-in-Some : goal.returns-in_ok-value-in-Some
returns-in_ok-value-in-Some c =
    step _ (ap (λ e. tested (inside_view c.args.at) (option_map (value_view (types_of c.args.at)) (option_copied e))) c.in-Some.is)
    c.in_ok-value-in-Some.ensures given
