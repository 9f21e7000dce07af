use Rattle.std.proofs.Common.{refl, sym, ap}
use Rattle.c_typed.specs.Views.{value_view}
use Rattle.c_typed.specs.StatementViews.{row_view}
use Rattle.lower.specs.Statements.{in_memory_given}
use Rattle.lower.specs.Emits.{rows_of, types_of, inside_view}
use Rattle.lower.proofs.Cells.{stored-told}
use Rattle.lower.proofs.Steps.{step, stop, exits, same-making}
use Rattle.lower.proofs.initializers.give_memory.Goals as goal

pub returns-in_err-pointer : goal.returns-in_err-pointer
returns-in_err-pointer c =
    same-making (ap (λ z. in_memory_given (inside_view c.args.at) z c.args.number (value_view (types_of c.args.at) c.args.e.now)) (sym c.row-row.ensures))
    (step _ refl (c.home-home.ensures (rows_of c.args.at)) (stop _ refl (exits c.from_residual.result _ c.from_residual.ensures.1)
    (c.in_err-pointer.ensures (rows_of c.args.at))))

pub returns-in_err-emit : goal.returns-in_err-emit
returns-in_err-emit c =
    same-making (ap (λ z. in_memory_given (inside_view c.args.at) z c.args.number (value_view (types_of c.args.at) c.args.e.now)) (sym c.row-row.ensures))
    (step _ refl (c.home-home.ensures (rows_of c.args.at)) (step _ refl (c.in_ok-pointer.ensures (rows_of c.args.at))
    (stop _ refl (exits c.from_residual-in_err-emit.result _ c.from_residual-in_err-emit.ensures.1) (c.in_err-emit.ensures (rows_of c.args.at)))))

pub returns-in_err-source : goal.returns-in_err-source
returns-in_err-source c =
    same-making (ap (λ z. in_memory_given (inside_view c.args.at) z c.args.number (value_view (types_of c.args.at) c.args.e.now)) (sym c.row-row.ensures))
    (step _ refl (c.home-home.ensures (rows_of c.args.at)) (step _ refl (c.in_ok-pointer.ensures (rows_of c.args.at))
    (step _ refl (c.in_ok-emit.ensures (rows_of c.args.at))
    (stop _ refl (exits c.from_residual-in_err-source.result _ c.from_residual-in_err-source.ensures.1) c.in_err-source.ensures))))

pub returns : goal.returns
returns c =
    same-making (ap (λ z. in_memory_given (inside_view c.args.at) z c.args.number (value_view (types_of c.args.at) c.args.e.now)) (sym c.row-row.ensures))
    (step _ refl (c.home-home.ensures (rows_of c.args.at)) (step _ refl (c.in_ok-pointer.ensures (rows_of c.args.at))
    (step _ refl (c.in_ok-emit.ensures (rows_of c.args.at)) (step _ refl c.in_ok-source.ensures
    (same-making (stored-told (row_view (types_of c.args.at) c.row-row.result) c.in_ok-pointer.pointer c.in_ok-source.source c.row-row.result.line
    c.storing.result
    (c.storing.ensures (rows_of c.args.at))) (c.emit-2.ensures (rows_of c.args.at)))))))
