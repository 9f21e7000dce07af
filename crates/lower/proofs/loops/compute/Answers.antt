use Rattle.std.proofs.Common.{ap}
use Rattle.std.specs.Prelude.{option_map}
use Rattle.std.specs.Option.{option_copied}
use Rattle.c_typed.specs.Views.{value_view}
use Rattle.lower.specs.Statements.{done}
use Rattle.lower.specs.Emits.{types_of, inside_view}
use Rattle.lower.proofs.Steps.{step, stop, given, exits, same-making}
use Rattle.lower.proofs.loops.compute.Goals as goal

pub returns-in_err-value : goal.returns-in_err-value
returns-in_err-value c =
    stop _ (ap (λ e. done (inside_view c.args.at) (option_map (value_view (types_of c.args.at)) (option_copied e))) c.in-Some.is)
    (exits c.from_residual.result _ c.from_residual.ensures.1) c.in_err-value.ensures

pub returns-in_ok-value : goal.returns-in_ok-value
returns-in_ok-value c =
    step _ (ap (λ e. done (inside_view c.args.at) (option_map (value_view (types_of c.args.at)) (option_copied e))) c.in-Some.is)
    c.in_ok-value.ensures given

pub returns-in_default : goal.returns-in_default
returns-in_default c =
    same-making (ap (λ e. done (inside_view c.args.at) (option_map (value_view (types_of c.args.at)) (option_copied e))) c.in_default.is) given
