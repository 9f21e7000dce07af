use Rattle.std.proofs.Common.{refl}
use Rattle.lower.specs.Emits.{rows_of}
use Rattle.lower.proofs.Steps.{step, stop, exits}
use Rattle.lower.proofs.initializers.give_cell.Goals as goal

pub returns-in_err-emit : goal.returns-in_err-emit
returns-in_err-emit c = stop _ refl (exits c.from_residual.result _ c.from_residual.ensures.1) (c.in_err-emit.ensures (rows_of c.args.at))

pub returns-in_err-move_to_cell : goal.returns-in_err-move_to_cell
returns-in_err-move_to_cell c =
    step _ refl (c.in_ok-emit.ensures (rows_of c.args.at)) (stop _ refl
    (exits c.from_residual-in_err-move_to_cell.result _ c.from_residual-in_err-move_to_cell.ensures.1)
    (c.in_err-move_to_cell.ensures (rows_of c.args.at)))

pub returns-in_err-source : goal.returns-in_err-source
returns-in_err-source c =
    step _ refl (c.in_ok-emit.ensures (rows_of c.args.at)) (step _ refl (c.in_ok-move_to_cell.ensures (rows_of c.args.at))
    (stop _ refl (exits c.from_residual-in_err-source.result _ c.from_residual-in_err-source.ensures.1) c.in_err-source.ensures))

pub returns : goal.returns
returns c =
    step _ refl (c.in_ok-emit.ensures (rows_of c.args.at)) (step _ refl (c.in_ok-move_to_cell.ensures (rows_of c.args.at))
    (step _ refl c.in_ok-source.ensures (c.emit-2.ensures (rows_of c.args.at))))
