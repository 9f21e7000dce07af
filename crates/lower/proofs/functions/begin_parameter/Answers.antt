use Rattle.std.proofs.Common.{subst, [], ◌∷◌, true}
use Rattle.mid_code.specs.declared.mid.Mid.TheVariants as mid
use Rattle.c_typed.specs.StatementViews.{row_view}
use Rattle.lower.specs.Emits.{nothing, rows_of, types_of, inside_view, emits_mid}
use Rattle.lower.specs.Runs.{Begins}
use Rattle.lower.proofs.Steps.{exits}
use Rattle.lower.proofs.BeginSteps.{begin-step, begin-stop, emitted-begins}
use Rattle.lower.proofs.LocalSteps.{sized-opens}
use Rattle.lower.proofs.Parameters.{parameter-row, parameter-begun}
use Rattle.lower.proofs.functions.begin_parameter.Goals as goal

pub returns-in_err-pointer : goal.returns-in_err-pointer
returns-in_err-pointer c =
    let i = inside_view c.args.at in
    let row = row_view (types_of c.args.at) c.row-row.result in
    begin-stop _ (parameter-row i c.args.number row true c.row-row.ensures c.if-row.true) (exits c.from_residual.result _ c.from_residual.ensures.1)
    (c.in_err-pointer.ensures (rows_of c.args.at))

pub returns-then-row : goal.returns-then-row
returns-then-row c =
    let i = inside_view c.args.at in
    let row = row_view (types_of c.args.at) c.row-row.result in
    begin-step {first = λ start. start ∷ []} {rest = λ start. []} _ 1 (parameter-row i c.args.number row true c.row-row.ensures c.if-row.true)
    (sized-opens row.line c.args.number 1)
    (λ start. parameter-begun i.rows c.args.number start row true c.row-row.ensures c.if-row.true)
    (c.in_ok-pointer.ensures (rows_of c.args.at))
    (subst (λ n. Begins nothing (rows_of c.args.at) (λ start. []) c.open.new.body (record c.open.new.body { out = c.emit.new.self }) c.emit.result
    (emits_mid c.row-row.result.line (mid.Store c.in_ok-pointer.pointer n))) c.in-Ok.ensures.1 (emitted-begins (c.emit.ensures (rows_of c.args.at))))
