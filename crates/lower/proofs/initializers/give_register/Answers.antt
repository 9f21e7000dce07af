use Rattle.std.proofs.Common.{refl, sym, ap}
use Rattle.c_typed.specs.Views.{value_view}
use Rattle.lower.specs.Statements.{in_register_given}
use Rattle.lower.specs.Emits.{rows_of, types_of, inside_view}
use Rattle.lower.proofs.Steps.{step, stop, exits, same-making}
use Rattle.lower.proofs.initializers.give_register.Goals as goal

pub returns-in_err-source : goal.returns-in_err-source
returns-in_err-source c =
    same-making (ap (λ z. in_register_given (inside_view c.args.at) z c.args.number (value_view (types_of c.args.at) c.args.e.now)) (sym c.row-row.ensures))
    (stop _ refl (exits c.from_residual.result _ c.from_residual.ensures.1) c.in_err-source.ensures)

pub returns : goal.returns
returns c =
    same-making (ap (λ z. in_register_given (inside_view c.args.at) z c.args.number (value_view (types_of c.args.at) c.args.e.now)) (sym c.row-row.ensures))
    (step _ refl c.in_ok-source.ensures (step _ refl (c.home-target.ensures (rows_of c.args.at)) (c.emit.ensures (rows_of c.args.at))))
