use Rattle.std.proofs.Common.{◌≡◌, arith, length, refl, ◌∙◌, ap, take}
use Rattle.source_meaning.specs.Statements.{locals_of}
use Rattle.lower.specs.Statements.{begun_at, all_begin, lowers_items}
use Rattle.lower.specs.Emits.{nothing, rows_of, types_of, inside_view}
use Rattle.lower.proofs.Steps.{exits}
use Rattle.lower.proofs.RunSteps.{run-step, run-stop, emitted}
use Rattle.lower.proofs.Blocks.{live, live-refused, begin-refused}
use Rattle.lower.proofs.FunctionParts.{items_of, main-row}
use Rattle.lower.proofs.functions.lower_main.Goals as goal

pub returns-in_err-begin_block : goal.returns-in_err-begin_block
returns-in_err-begin_block c =
    let i = inside_view c.args.at in
    let items = items_of (types_of c.args.at) c.args.at.function.now c.as_slice-items.result.now in
    run-stop {view = nothing} {mid = c.begin_block.new.body} _
    (main-row (types_of c.args.at) c.args.at.function.now i c.as_slice-items.result.now c.as_slice-items.ensures)
    (exits c.from_residual.result _ c.from_residual.ensures.1)
    (begin-refused (λ start. begun_at i.rows start (locals_of items)) (all_begin i (locals_of items)) (lowers_items i items) c.args.body.now
    c.begin_block.new.body
    c.begin_block.new.body refl c.in_err-begin_block.ensures)

pub returns-in_err-all_items : goal.returns-in_err-all_items
returns-in_err-all_items c =
    let i = inside_view c.args.at in
    let items = items_of (types_of c.args.at) c.args.at.function.now c.as_slice-items.result.now in
    run-stop {view = nothing} {mid = c.all_items.new.body} _
    (main-row (types_of c.args.at) c.args.at.function.now i c.as_slice-items.result.now c.as_slice-items.ensures)
    (exits c.from_residual-in_err-all_items.result _ c.from_residual-in_err-all_items.ensures.1)
    (live-refused (λ start. begun_at i.rows start (locals_of items)) (all_begin i (locals_of items)) (lowers_items i items) c.args.body.now
    c.begin_block.new.body
    c.all_items.new.body c.all_items.new.body refl c.in_ok-begin_block.ensures c.in_err-all_items.ensures)

pub returns : goal.returns
returns c =
    let i = inside_view c.args.at in
    let stay : c.args.body.now.objects.len ≡ length c.args.body.now.objects.items = omega (arith, c.args.body.now.objects.ok.0) in
    let items = items_of (types_of c.args.at) c.args.at.function.now c.as_slice-items.result.now in
    run-step {view = nothing} {x = tt} _ (main-row (types_of c.args.at) c.args.at.function.now i c.as_slice-items.result.now c.as_slice-items.ensures)
    (live (λ start. begun_at i.rows start (locals_of items)) (all_begin i (locals_of items)) (lowers_items i items) c.args.body.now c.begin_block.new.body
    c.all_items.new.body (record c.all_items.new.body { objects = c.truncate.new.self }) tt c.in_ok-begin_block.ensures c.in_ok-all_items.ensures refl
    (c.truncate.ensures.items ∙ ap (λ n. take n c.all_items.new.body.objects.items) (c.len-stay.ensures ∙ stay)) refl)
    (emitted (c.leave_main.ensures (rows_of c.args.at)))
