use Rattle.std.proofs.Common.{ap}
use Rattle.std.specs.Prelude.{option_map}
use Rattle.c_typed.specs.Views.{value_view}
use Rattle.lower.specs.Statements.{value_or_zero}
use Rattle.lower.specs.Emits.{rows_of, types_of, inside_view}
use Rattle.lower.proofs.Steps.{same-making}
use Rattle.lower.proofs.jumps.returned.Goals as goal

pub returns-in-None : goal.returns-in-None
returns-in-None c =
    same-making (ap (λ e. value_or_zero (inside_view c.args.at) c.args.line (option_map (value_view (types_of c.args.at)) e)) c.in-None.is)
    (c.constant.ensures (rows_of c.args.at))
