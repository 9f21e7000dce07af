use Rattle.std.proofs.Common.{◌∙◌, ap}
use Rattle.c_types.specs.Table.{type_at}
use Rattle.c_typed.specs.StatementViews.{row_view}
use Rattle.lower.specs.Emitting.{kind_of}
use Rattle.lower.specs.Emits.{rows_of, types_of, inside_view}
use Rattle.lower.proofs.Steps.{exits, step, stop}
use Rattle.lower.proofs.Parameters.{argument-row}
use Rattle.lower.proofs.functions.stand_argument.Goals as goal

pub returns-in_err-register : goal.returns-in_err-register
returns-in_err-register c =
    stop _ (argument-row (inside_view c.args.at) c.args.number (row_view (types_of c.args.at) c.row-row.result) c.kind_of.result c.row-row.ensures
    (c.kind_of.ensures ∙ ap (λ rows. kind_of (type_at rows c.row-row.result.ty.target)) c.types.ensures))
    (exits c.from_residual.result _ c.from_residual.ensures.1) (c.in_err-register.ensures (rows_of c.args.at))

pub returns : goal.returns
returns c =
    step _ (argument-row (inside_view c.args.at) c.args.number (row_view (types_of c.args.at) c.row-row.result) c.kind_of.result c.row-row.ensures
    (c.kind_of.ensures ∙ ap (λ rows. kind_of (type_at rows c.row-row.result.ty.target)) c.types.ensures))
    (c.in_ok-register.ensures (rows_of c.args.at)) (c.settle.ensures (rows_of c.args.at))
