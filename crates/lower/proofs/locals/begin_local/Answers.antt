use Rattle.std.proofs.Common.{refl, ◌∙◌, ap, List, [], ◌∷◌, Err}
use Rattle.c_types.specs.Table.{type_at}
use Rattle.c_types.specs.Types.{cells_of}
use Rattle.c_types.specs.declared.type_ref.Row.{Row}
use Rattle.lower.specs.Emitting.{kind_of}
use Rattle.c_typed.specs.StatementViews.{row_view}
use Rattle.lower.specs.Emits.{rows_of, types_of, inside_view}
use Rattle.lower.specs.Statements.{begun_at}
use Rattle.lower.proofs.Steps.{exits}
use Rattle.lower.proofs.BeginSteps.{begin-step, begin-stop, begin-at, begin-memory, begin-given, begin-emitted, emitted-begins, sized-new}
use Rattle.lower.proofs.LocalSteps.{begins-placed, begins-register, begun-placed, begun-register, sized-opens}
use Rattle.lower.proofs.locals.begin_local.Goals as goal

pub returns-in_err-cells : goal.returns-in_err-cells
returns-in_err-cells c = begin-memory (exits c.from_residual.result _ c.from_residual.ensures.1 ∙ ap Err c.in_err-cells.ensures.memory)

pub returns-in_err-open : goal.returns-in_err-open
returns-in_err-open c =
    let row = row_view (types_of c.args.at) c.row-row.result in
    begin-stop _
    (begins-placed (inside_view c.args.at) c.args.number row c.in_ok-cells.field-0 c.row-row.ensures c.if-row.true
    (c.in_ok-cells.ensures.same ∙ ap (λ (rows : List Row). cells_of (type_at rows c.row-row.result.ty.target)) c.types-types.ensures))
    (exits c.from_residual-in_err-open.result _ c.from_residual-in_err-open.ensures.1) (c.in_err-open.ensures (rows_of c.args.at))

pub returns-then-row : goal.returns-then-row
returns-then-row c =
    let row = row_view (types_of c.args.at) c.row-row.result in
    begin-step {first = λ start. start ∷ []} {rest = λ start. []} _ 1
    (begins-placed (inside_view c.args.at) c.args.number row c.in_ok-cells.field-0 c.row-row.ensures c.if-row.true
    (c.in_ok-cells.ensures.same ∙ ap (λ (rows : List Row). cells_of (type_at rows c.row-row.result.ty.target)) c.types-types.ensures))
    (sized-opens row.line c.args.number c.in_ok-cells.field-0)
    (λ start. begun-placed (inside_view c.args.at).rows c.args.number start row c.row-row.ensures c.if-row.true)
    (c.in_ok-open.ensures (rows_of c.args.at)) (begin-given (λ start. refl))

pub returns-in_err-target : goal.returns-in_err-target
returns-in_err-target c =
    begin-stop _
    (begins-register (inside_view c.args.at) c.args.number (row_view (types_of c.args.at) c.row-row.result) c.kind_of.result c.row-row.ensures c.if-row.false
    (c.kind_of.ensures ∙ ap (λ (rows : List Row). kind_of (type_at rows c.row-row.result.ty.target)) c.types-types.ensures))
    (exits c.from_residual-in_err-target.result _ c.from_residual-in_err-target.ensures.1) (emitted-begins (c.in_err-target.ensures (rows_of c.args.at)))

pub returns : goal.returns
returns c =
    let row = row_view (types_of c.args.at) c.row-row.result in
    begin-emitted _
    (begins-register (inside_view c.args.at) c.args.number row c.kind_of.result c.row-row.ensures c.if-row.false
    (c.kind_of.ensures ∙ ap (λ (rows : List Row). kind_of (type_at rows c.row-row.result.ty.target)) c.types-types.ensures))
    (sized-new c.kind_of.result row.line) (c.in_ok-target.ensures (rows_of c.args.at))
    (begin-emitted _ refl (λ allotted around start. refl) (c.settle.ensures (rows_of c.args.at))
    (begin-at (λ start. []) (λ start. begun_at (inside_view c.args.at).rows start (c.args.number ∷ []))
    (λ start. begun-register (inside_view c.args.at).rows c.args.number start row c.row-row.ensures c.if-row.false)
    (emitted-begins (c.emit.ensures (rows_of c.args.at)))))
