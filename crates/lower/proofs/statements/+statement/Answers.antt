use Rattle.std.proofs.Common.{refl, sym, ◌∙◌, ap, Ok, Err, Some, None, map}
use Rattle.std.specs.Prelude.{option_map}
use Rattle.std.specs.Option.{option_copied}
use Rattle.c_typed.specs.declared.statement.StmtNode.TheVariants as sn
use Rattle.c_typed.specs.declared.statement.ForStart.TheVariants as fs
use Rattle.c_typed.specs.declared.statement.BlockItem.TheVariants as bi
use Rattle.c_typed.specs.StatementViews.{stmt_view, all_items as items_of, block_item_view, local_item_view}
use Rattle.c_typed.specs.Views.{value_view}
use Rattle.lower.specs.declared.refusal.LowerRefusal.TheVariants.{Memory}
use Rattle.lower.specs.Emits.{nothing, rows_of, types_of, inside_view}
use Rattle.lower.proofs.Steps.{exits}
use Rattle.lower.proofs.RunSteps.{run-step, run-stop, run-given, run-memory, run-same, emit-step, emit-stop, emitted}
use Rattle.lower.proofs.StatementRows.{block-row, empty-row, value-row, if-row, while-row, do-row, for-row, continue-row, break-row, return-row, first-row}
use Rattle.lower.proofs.StatementRows.{locals-row}
use Rattle.source_meaning.specs.Statements.{locals_of, numbers_of}
use Rattle.lower.specs.Statements.{lowers, lowers_items, in_block, looped}
use Rattle.lower.proofs.Blocks.{block-begin-refused}
use Rattle.lower.proofs.StatementSteps.{items-row, items-end, statement-alone, declaration-alone, over-ran, over-refused, first-way-refused}
use Rattle.lower.proofs.StatementSteps.{second-way-refused, both-ran, block-closed, inside-refused}
use Rattle.lower.proofs.LoopSteps.{turn-refused, test-refused, unless-memory, body-refused, step-refused, jump-refused, rounds-done, do-body-refused}
use Rattle.lower.proofs.LoopSteps.{do-test-refused, do-jump-refused, do-done}
use Rattle.lower.proofs.statements.+statement.Goals as goal

-- ---- statements

pub statement-returns-in_err-value-in-Value : goal.statement-returns-in_err-value-in-Value
statement-returns-in_err-value-in-Value t c =
    emit-stop _ (value-row (inside_view c.args.at) (types_of c.args.at) c.args.stmt.now c.in-Value.e c.in-Value.is)
    (exits c.from_residual.result _ c.from_residual.ensures.1) refl c.in_err-value-in-Value.ensures

pub statement-returns-in_err-test-in-If : goal.statement-returns-in_err-test-in-If
statement-returns-in_err-test-in-If t c =
    emit-stop _ (if-row (inside_view c.args.at) (types_of c.args.at) c.args.stmt.now c.in-If.e c.in-If.a c.in-If.otherwise c.in-If.is)
    (exits c.from_residual-in_err-test-in-If.result _ c.from_residual-in_err-test-in-If.ensures.1) refl c.in_err-test-in-If.ensures

pub statement-returns-in_err-source-in-Return : goal.statement-returns-in_err-source-in-Return
statement-returns-in_err-source-in-Return t c =
    emit-stop _ (return-row (inside_view c.args.at) (types_of c.args.at) c.args.stmt.now c.in-Return.e c.in-Return.is)
    (exits c.from_residual-in_err-source-in-Return.result _ c.from_residual-in_err-source-in-Return.ensures.1) refl c.in_err-source-in-Return.ensures

pub statement-returns-in-Empty : goal.statement-returns-in-Empty
statement-returns-in-Empty t c =
    run-same (empty-row (inside_view c.args.at) (types_of c.args.at) c.args.stmt.now c.in-Empty.is) run-given

pub statement-returns-in_ok-value-in-Value : goal.statement-returns-in_ok-value-in-Value
statement-returns-in_ok-value-in-Value t c =
    emit-step _ (value-row (inside_view c.args.at) (types_of c.args.at) c.args.stmt.now c.in-Value.e c.in-Value.is) c.in_ok-value-in-Value.ensures run-given

pub statement-returns-in-Block : goal.statement-returns-in-Block
statement-returns-in-Block t c =
    run-same
    (block-row (inside_view c.args.at) (types_of c.args.at) c.args.stmt.now c.get-block.result.now (c.in-Block.is ∙ ap sn.Block (sym c.get-block.ensures))
    ∙ ap (λ xs. in_block (inside_view c.args.at) (locals_of (items_of (map (block_item_view (types_of c.args.at)) xs))) c.get-block.result.now.line
    (lowers_items (inside_view c.args.at) (items_of (map (block_item_view (types_of c.args.at)) xs)))) (sym c.as_slice.ensures))
    c.items_in_block.ensures

pub statement-returns-in-None : goal.statement-returns-in-None
statement-returns-in-None t c =
    emit-step _ (if-row (inside_view c.args.at) (types_of c.args.at) c.args.stmt.now c.in-If.e c.get.result.now None
    (c.in-If.is ∙ (λ j. sn.If c.in-If.e (sym c.get.ensures j) (c.in-None.is j)))) c.in_ok-test-in-If.ensures c.only_if.ensures

pub statement-returns-in_err-waits-in-Some : goal.statement-returns-in_err-waits-in-Some
statement-returns-in_err-waits-in-Some t c =
    run-memory (exits c.from_residual-in_err-waits-in-Some.result _ c.from_residual-in_err-waits-in-Some.ensures.1 ∙ ap Err c.in_err-waits-in-Some.ensures)

pub statement-returns-in_err-statement-in-Some : goal.statement-returns-in_err-statement-in-Some
statement-returns-in_err-statement-in-Some t c =
    emit-step _ (if-row (inside_view c.args.at) (types_of c.args.at) c.args.stmt.now c.in-If.e c.get-in-Some.result.now (Some c.in-Some.b)
    (c.in-If.is ∙ (λ j. sn.If c.in-If.e (sym c.get-in-Some.ensures j) (c.in-Some.is j)))) c.in_ok-test-in-If.ensures
    (first-way-refused (rows_of c.args.at) c.args.stmt.now.line c.in_ok-test-in-If.test _ (record c.args.body.now { out = c.value-in-If.new.out })
    c.jump_from.new.self c.in_ok-waits-in-Some.ensures _ _ c.statement.new.body _ _ _ c.in_err-statement-in-Some.ensures
    (exits c.from_residual-in_err-statement-in-Some.result _ c.from_residual-in_err-statement-in-Some.ensures.1))

pub statement-returns-in_err-over-in-Some : goal.statement-returns-in_err-over-in-Some
statement-returns-in_err-over-in-Some t c =
    run-memory (exits c.from_residual-in_err-over-in-Some.result _ c.from_residual-in_err-over-in-Some.ensures.1 ∙ ap Err c.in_err-over-in-Some.ensures)

pub statement-returns-in_err-statement-in-Some-2 : goal.statement-returns-in_err-statement-in-Some-2
statement-returns-in_err-statement-in-Some-2 t c =
    emit-step _ (if-row (inside_view c.args.at) (types_of c.args.at) c.args.stmt.now c.in-If.e c.get-in-Some.result.now (Some c.get-in-Some-2.result.now)
    (c.in-If.is ∙ (λ j. sn.If c.in-If.e (sym c.get-in-Some.ensures j) ((c.in-Some.is ∙ ap Some (sym c.get-in-Some-2.ensures)) j)))) c.in_ok-test-in-If.ensures
    (second-way-refused (rows_of c.args.at) c.args.stmt.now.line c.in_ok-test-in-If.test _ (record c.args.body.now { out = c.value-in-If.new.out })
    c.jump_from.new.self c.in_ok-waits-in-Some.ensures _ _ c.statement.new.body tt _ c.turn.new.self c.in_ok-statement-in-Some.ensures
    c.in_ok-over-in-Some.ensures
    c.statement-in-Some.new.body _ _ _ c.in_err-statement-in-Some-2.ensures
    (exits c.from_residual-in_err-statement-in-Some-2.result _ c.from_residual-in_err-statement-in-Some-2.ensures.1))

pub statement-returns-in_ok-statement-in-Some-2 : goal.statement-returns-in_ok-statement-in-Some-2
statement-returns-in_ok-statement-in-Some-2 t c =
    emit-step _ (if-row (inside_view c.args.at) (types_of c.args.at) c.args.stmt.now c.in-If.e c.get-in-Some.result.now (Some c.get-in-Some-2.result.now)
    (c.in-If.is ∙ (λ j. sn.If c.in-If.e (sym c.get-in-Some.ensures j) ((c.in-Some.is ∙ ap Some (sym c.get-in-Some-2.ensures)) j)))) c.in_ok-test-in-If.ensures
    (both-ran (rows_of c.args.at) c.args.stmt.now.line c.in_ok-test-in-If.test _ (record c.args.body.now { out = c.value-in-If.new.out })
    c.jump_from.new.self c.in_ok-waits-in-Some.ensures _ _ c.statement.new.body tt _ c.turn.new.self c.in_ok-statement-in-Some.ensures
    c.in_ok-over-in-Some.ensures
    c.statement-in-Some.new.body c.lead_here.new.self tt c.in_ok-statement-in-Some-2.ensures c.lead_here.ensures.allotted c.lead_here.ensures.led)

pub statement-returns-in-While : goal.statement-returns-in-While
statement-returns-in-While t c =
    run-same (while-row (inside_view c.args.at) (types_of c.args.at) c.args.stmt.now c.in-While.e c.get-in-While.result.now
    (c.in-While.is ∙ ap (sn.While c.in-While.e) (sym c.get-in-While.ensures))) c.rounds.ensures

pub statement-returns-in-Do : goal.statement-returns-in-Do
statement-returns-in-Do t c =
    run-same (do-row (inside_view c.args.at) (types_of c.args.at) c.args.stmt.now c.get-in-Do.result.now c.in-Do.e
    (c.in-Do.is ∙ ap (λ a. sn.Do a c.in-Do.e) (sym c.get-in-Do.ensures))) c.rounds_of_do.ensures

pub statement-returns-in-For : goal.statement-returns-in-For
statement-returns-in-For t c =
    run-same (for-row (inside_view c.args.at) (types_of c.args.at) c.args.stmt.now c.in-For.head c.get-in-For.result.now
    (c.in-For.is ∙ ap (sn.For c.in-For.head) (sym c.get-in-For.ensures))) c.for_loop.ensures

pub statement-returns-in-Continue : goal.statement-returns-in-Continue
statement-returns-in-Continue t c =
    run-same (continue-row (inside_view c.args.at) (types_of c.args.at) c.args.stmt.now c.in-Continue.is) (c.resume.ensures (rows_of c.args.at))

pub statement-returns-in-Break : goal.statement-returns-in-Break
statement-returns-in-Break t c =
    run-same (break-row (inside_view c.args.at) (types_of c.args.at) c.args.stmt.now c.in-Break.is) (c.leave.ensures (rows_of c.args.at))

pub statement-returns-in_ok-source-in-Return : goal.statement-returns-in_ok-source-in-Return
statement-returns-in_ok-source-in-Return t c =
    emit-step _ (return-row (inside_view c.args.at) (types_of c.args.at) c.args.stmt.now c.in-Return.e c.in-Return.is) c.in_ok-source-in-Return.ensures
    (c.give_back.ensures (rows_of c.args.at))

-- ---- `for`

pub for_loop-returns-in_err-compute-in-Value : goal.for_loop-returns-in_err-compute-in-Value
for_loop-returns-in_err-compute-in-Value t c =
    emit-stop _ (first-row (inside_view c.args.at) (types_of c.args.at) c.args.line c.args.head.now (stmt_view (types_of c.args.at) c.args.a.now)
    (option_copied c.given.result)
    (c.in-Value.is ∙ ap fs.Value (sym c.given.ensures)))
    (exits c.from_residual.result _ c.from_residual.ensures.1) refl c.in_err-compute-in-Value.ensures

pub for_loop-returns-in_ok-compute-in-Value : goal.for_loop-returns-in_ok-compute-in-Value
for_loop-returns-in_ok-compute-in-Value t c =
    emit-step _ (first-row (inside_view c.args.at) (types_of c.args.at) c.args.line c.args.head.now (stmt_view (types_of c.args.at) c.args.a.now)
    (option_copied c.given.result)
    (c.in-Value.is ∙ ap fs.Value (sym c.given.ensures)))
    c.in_ok-compute-in-Value.ensures
    (run-same (λ j. looped (inside_view c.args.at) c.args.line (option_map (value_view (types_of c.args.at)) (sym c.given-in-Value.ensures j))
    (lowers (inside_view c.args.at) (stmt_view (types_of c.args.at) c.args.a.now))
    (option_map (value_view (types_of c.args.at)) (sym c.given-in-Value-2.ensures j)))
    c.rounds.ensures)

pub for_loop-returns-in-Locals : goal.for_loop-returns-in-Locals
for_loop-returns-in-Locals t c =
    run-same (locals-row (inside_view c.args.at) (types_of c.args.at) c.args.line c.args.head.now (stmt_view (types_of c.args.at) c.args.a.now)
    c.as_slice.result.now
    (c.in-Locals.is ∙ ap fs.Locals (sym c.as_slice.ensures))) c.rounds_with.ensures

-- ---- the parts of a block

pub block_item-returns-in-Statement : goal.block_item-returns-in-Statement
block_item-returns-in-Statement t c =
    run-same (statement-alone (inside_view c.args.at) (types_of c.args.at) c.args.item.now c.in-Statement.stmt c.in-Statement.is) c.statement.ensures

pub block_item-returns-in-Declaration : goal.block_item-returns-in-Declaration
block_item-returns-in-Declaration t c =
    run-same (declaration-alone (inside_view c.args.at) (types_of c.args.at) c.args.item.now c.as_slice.result.now
    (c.in-Declaration.is ∙ ap bi.Declaration (sym c.as_slice.ensures)))
    (emitted {old = c.args.body.now} c.initialize_all.ensures)

pub all_items-loop-item-init : goal.all_items-loop-item-init
all_items-loop-item-init t c = λ final r h. h

pub all_items-returns-in_err-block_item : goal.all_items-returns-in_err-block_item
all_items-returns-in_err-block_item t c =
    c.loop-item.invariant _ _
    (run-stop _ (items-row (inside_view c.args.at) (types_of c.args.at) c.args.items.now c.loop-item.item-index c.item-item.result c.loop-item-test.true
    c.item-item.is)
    (exits c.from_residual.result _ c.from_residual.ensures.1) c.in_err-block_item.ensures)

pub all_items-loop-item-preserved : goal.all_items-loop-item-preserved
all_items-loop-item-preserved t c =
    λ final r h.
    c.loop-item.invariant final r
    (run-step _ (items-row (inside_view c.args.at) (types_of c.args.at) c.args.items.now c.loop-item.item-index c.item-item.result c.loop-item-test.true
    c.item-item.is)
    c.in_ok-block_item.ensures h)

pub all_items-returns : goal.all_items-returns
all_items-returns t c =
    c.loop-item.invariant c.loop-item.body (Ok tt)
    (run-same (items-end (inside_view c.args.at) (types_of c.args.at) c.args.items.now c.loop-item.item-index c.loop-item-test.false) run-given)

pub items_in_block-returns-in_err-begin_block : goal.items_in_block-returns-in_err-begin_block
items_in_block-returns-in_err-begin_block t c =
    block-begin-refused {view = nothing} (inside_view c.args.at) (locals_of (items_of (map (block_item_view (types_of c.args.at)) c.args.items.now)))
    c.args.line _ c.args.body.now c.begin_block.new.body _
    (exits c.from_residual.result _ c.from_residual.ensures.1) c.in_err-begin_block.ensures

pub items_in_block-returns-in_err-all_items : goal.items_in_block-returns-in_err-all_items
items_in_block-returns-in_err-all_items t c =
    inside-refused (rows_of c.args.at) (inside_view c.args.at) (locals_of (items_of (map (block_item_view (types_of c.args.at)) c.args.items.now)))
    c.args.line _ c.args.body.now c.begin_block.new.body _ refl tt c.in_ok-begin_block.ensures
    c.all_items.new.body _ _ _ c.in_err-all_items.ensures (exits c.from_residual-in_err-all_items.result _ c.from_residual-in_err-all_items.ensures.1)

pub items_in_block-returns : goal.items_in_block-returns
items_in_block-returns t c =
    block-closed (rows_of c.args.at) (inside_view c.args.at) (locals_of (items_of (map (block_item_view (types_of c.args.at)) c.args.items.now))) c.args.line
    _ c.args.body.now c.begin_block.new.body c.len-stay.result (c.len-stay.ensures ∙ c.args.body.now.objects.ok.0) tt c.in_ok-begin_block.ensures
    c.all_items.new.body _ tt _ c.in_ok-all_items.ensures c.close_down_to.ensures

pub only_if-returns-in_err-waits : goal.only_if-returns-in_err-waits
only_if-returns-in_err-waits t c =
    run-memory (exits c.from_residual.result _ c.from_residual.ensures.1 ∙ ap Err c.in_err-waits.ensures)

pub only_if-returns-in_err-statement : goal.only_if-returns-in_err-statement
only_if-returns-in_err-statement t c =
    over-refused (rows_of c.args.at) c.args.line c.args.test _ c.args.body.now c.jump_from.new.self c.in_ok-waits.ensures _ c.statement.new.body _ _ _
    c.in_err-statement.ensures
    (exits c.from_residual-in_err-statement.result _ c.from_residual-in_err-statement.ensures.1)

pub only_if-returns : goal.only_if-returns
only_if-returns t c =
    over-ran (rows_of c.args.at) c.args.line c.args.test _ c.args.body.now c.jump_from.new.self c.in_ok-waits.ensures _ c.statement.new.body
    c.lead_here.new.self tt c.in_ok-statement.ensures
    c.lead_here.ensures.allotted c.lead_here.ensures.led

pub rounds-returns-in_err-objects : goal.rounds-returns-in_err-objects
rounds-returns-in_err-objects t c = run-memory (exits c.from_residual.result Memory c.from_residual.ensures.1)

pub rounds-returns-in_err-emit : goal.rounds-returns-in_err-emit
rounds-returns-in_err-emit t c =
    turn-refused (rows_of c.args.at) (inside_view c.args.at) c.args.line c.here-top.result c.args.body.now c.enter_loop.new.self _ c.in_ok-objects.ensures _
    c.emit.new.self _ _ _ (c.in_err-emit.ensures (rows_of c.args.at)) (exits c.from_residual-in_err-emit.result _ c.from_residual-in_err-emit.ensures.1)

pub rounds-returns-in_err-tested : goal.rounds-returns-in_err-tested
rounds-returns-in_err-tested t c =
    test-refused (rows_of c.args.at) (inside_view c.args.at) c.args.line c.here-top.result c.args.body.now c.enter_loop.new.self _ c.in_ok-objects.ensures
    c.emit.new.self tt (c.in_ok-emit.ensures (rows_of c.args.at)) _ _ _ c.test.new.out _ _ _ c.in_err-tested.ensures
    (exits c.from_residual-in_err-tested.result _ c.from_residual-in_err-tested.ensures.1)

pub rounds-returns-in_err-leaving : goal.rounds-returns-in_err-leaving
rounds-returns-in_err-leaving t c =
    run-memory (exits c.from_residual-in_err-leaving.result _ c.from_residual-in_err-leaving.ensures.1 ∙ ap Err
    (unless-memory c.args.line c.in_ok-tested.tested c.test.new.out c.leave_unless.new.self _ c.in_err-leaving.ensures))

pub rounds-returns-in_err-statement : goal.rounds-returns-in_err-statement
rounds-returns-in_err-statement t c =
    body-refused (rows_of c.args.at) (inside_view c.args.at) c.args.line c.here-top.result c.args.body.now c.enter_loop.new.self _ c.in_ok-objects.ensures
    c.emit.new.self tt (c.in_ok-emit.ensures (rows_of c.args.at)) _ _ _ c.test.new.out c.leave_unless.new.self _ _ c.in_ok-tested.ensures
    c.in_ok-leaving.ensures c.statement.new.body _ _ _ c.in_err-statement.ensures
    (exits c.from_residual-in_err-statement.result _ c.from_residual-in_err-statement.ensures.1)

pub rounds-returns-in_err-compute : goal.rounds-returns-in_err-compute
rounds-returns-in_err-compute t c =
    step-refused (rows_of c.args.at) (inside_view c.args.at) c.args.line c.here-top.result c.args.body.now c.enter_loop.new.self _ c.in_ok-objects.ensures
    c.emit.new.self tt (c.in_ok-emit.ensures (rows_of c.args.at)) _ _ _ c.test.new.out c.leave_unless.new.self _ _ c.in_ok-tested.ensures
    c.in_ok-leaving.ensures c.statement.new.body tt c.in_ok-statement.ensures c.compute.new.out _ _ _ c.in_err-compute.ensures
    (exits c.from_residual-in_err-compute.result _ c.from_residual-in_err-compute.ensures.1)

pub rounds-returns-in_err-emit-2 : goal.rounds-returns-in_err-emit-2
rounds-returns-in_err-emit-2 t c =
    jump-refused (rows_of c.args.at) (inside_view c.args.at) c.args.line c.here-top.result c.args.body.now c.enter_loop.new.self _ c.in_ok-objects.ensures
    c.emit.new.self tt (c.in_ok-emit.ensures (rows_of c.args.at)) _ _ _ c.test.new.out c.leave_unless.new.self _ _ c.in_ok-tested.ensures
    c.in_ok-leaving.ensures c.statement.new.body tt c.in_ok-statement.ensures c.compute.new.out tt c.in_ok-compute.ensures c.emit-2.new.self _ _ _
    (c.in_err-emit-2.ensures (rows_of c.args.at)) (exits c.from_residual-in_err-emit-2.result _ c.from_residual-in_err-emit-2.ensures.1)

pub rounds-returns-in_err-leave_loop : goal.rounds-returns-in_err-leave_loop
rounds-returns-in_err-leave_loop t c =
    run-memory (exits c.from_residual-in_err-leave_loop.result Memory c.from_residual-in_err-leave_loop.ensures.1)

pub rounds-returns : goal.rounds-returns
rounds-returns t c =
    rounds-done (rows_of c.args.at) (inside_view c.args.at) c.args.line c.here-top.result c.args.body.now c.enter_loop.new.self _ c.in_ok-objects.ensures
    c.emit.new.self tt (c.in_ok-emit.ensures (rows_of c.args.at)) _ _ _ c.test.new.out c.leave_unless.new.self _ _ c.in_ok-tested.ensures
    c.in_ok-leaving.ensures c.statement.new.body tt c.in_ok-statement.ensures c.compute.new.out tt c.in_ok-compute.ensures c.here-top.ensures
    c.here-continue_at.result c.here-continue_at.ensures c.emit-2.new.self c.lead_if.new.self tt c.leave_loop.new.self tt
    (c.in_ok-emit-2.ensures (rows_of c.args.at)) c.lead_if.ensures c.in_ok-leave_loop.ensures

pub rounds_of_do-returns-in_err-objects : goal.rounds_of_do-returns-in_err-objects
rounds_of_do-returns-in_err-objects t c = run-memory (exits c.from_residual.result Memory c.from_residual.ensures.1)

pub rounds_of_do-returns-in_err-emit : goal.rounds_of_do-returns-in_err-emit
rounds_of_do-returns-in_err-emit t c =
    turn-refused (rows_of c.args.at) (inside_view c.args.at) c.args.line c.here-top.result c.args.body.now c.enter_loop.new.self _ c.in_ok-objects.ensures _
    c.emit.new.self _ _ _ (c.in_err-emit.ensures (rows_of c.args.at)) (exits c.from_residual-in_err-emit.result _ c.from_residual-in_err-emit.ensures.1)

pub rounds_of_do-returns-in_err-statement : goal.rounds_of_do-returns-in_err-statement
rounds_of_do-returns-in_err-statement t c =
    do-body-refused (rows_of c.args.at) (inside_view c.args.at) c.args.line c.here-top.result c.args.body.now c.enter_loop.new.self _ c.in_ok-objects.ensures
    c.emit.new.self tt (c.in_ok-emit.ensures (rows_of c.args.at)) _ _ c.statement.new.body _ _ _ c.in_err-statement.ensures
    (exits c.from_residual-in_err-statement.result _ c.from_residual-in_err-statement.ensures.1)

pub rounds_of_do-returns-in_err-source : goal.rounds_of_do-returns-in_err-source
rounds_of_do-returns-in_err-source t c =
    do-test-refused (rows_of c.args.at) (inside_view c.args.at) c.args.line c.here-top.result c.args.body.now c.enter_loop.new.self _ c.in_ok-objects.ensures
    c.emit.new.self tt (c.in_ok-emit.ensures (rows_of c.args.at)) _ _ c.statement.new.body tt c.in_ok-statement.ensures c.value.new.out _ _ _
    c.in_err-source.ensures (exits c.from_residual-in_err-source.result _ c.from_residual-in_err-source.ensures.1)

pub rounds_of_do-returns-in_err-emit-2 : goal.rounds_of_do-returns-in_err-emit-2
rounds_of_do-returns-in_err-emit-2 t c =
    do-jump-refused (rows_of c.args.at) (inside_view c.args.at) c.args.line c.here-top.result c.args.body.now c.enter_loop.new.self _ c.in_ok-objects.ensures
    c.emit.new.self tt (c.in_ok-emit.ensures (rows_of c.args.at)) _ _ c.statement.new.body tt c.in_ok-statement.ensures c.value.new.out _
    c.in_ok-source.ensures c.emit-2.new.self _ _ _ (c.in_err-emit-2.ensures (rows_of c.args.at))
    (exits c.from_residual-in_err-emit-2.result _ c.from_residual-in_err-emit-2.ensures.1)

pub rounds_of_do-returns-in_err-leave_loop : goal.rounds_of_do-returns-in_err-leave_loop
rounds_of_do-returns-in_err-leave_loop t c =
    run-memory (exits c.from_residual-in_err-leave_loop.result Memory c.from_residual-in_err-leave_loop.ensures.1)

pub rounds_of_do-returns : goal.rounds_of_do-returns
rounds_of_do-returns t c =
    do-done (rows_of c.args.at) (inside_view c.args.at) c.args.line c.here-top.result c.args.body.now c.enter_loop.new.self _ c.in_ok-objects.ensures
    c.emit.new.self tt (c.in_ok-emit.ensures (rows_of c.args.at)) _ _ c.statement.new.body tt c.in_ok-statement.ensures c.value.new.out _
    c.in_ok-source.ensures c.here-top.ensures c.here-continue_at.result c.here-continue_at.ensures c.emit-2.new.self tt c.leave_loop.new.self tt
    (c.in_ok-emit-2.ensures (rows_of c.args.at)) c.in_ok-leave_loop.ensures

pub rounds_with-returns-in_err-begin_locals : goal.rounds_with-returns-in_err-begin_locals
rounds_with-returns-in_err-begin_locals t c =
    block-begin-refused {view = nothing} (inside_view c.args.at) (numbers_of (map (local_item_view (types_of c.args.at)) c.args.locals.now)) c.args.line _
    c.args.body.now c.begin_locals.new.body _
    (exits c.from_residual.result _ c.from_residual.ensures.1) c.in_err-begin_locals.ensures

pub rounds_with-returns-in_err-initialize_all : goal.rounds_with-returns-in_err-initialize_all
rounds_with-returns-in_err-initialize_all t c =
    inside-refused (rows_of c.args.at) (inside_view c.args.at) (numbers_of (map (local_item_view (types_of c.args.at)) c.args.locals.now)) c.args.line _
    c.args.body.now c.begin_locals.new.body _ refl tt c.in_ok-begin_locals.ensures c.begin_locals.new.body _ _ _
    (emit-stop {next_view = nothing} _ refl refl refl c.in_err-initialize_all.ensures)
    (exits c.from_residual-in_err-initialize_all.result _ c.from_residual-in_err-initialize_all.ensures.1)

pub rounds_with-returns-in_err-rounds : goal.rounds_with-returns-in_err-rounds
rounds_with-returns-in_err-rounds t c =
    inside-refused (rows_of c.args.at) (inside_view c.args.at) (numbers_of (map (local_item_view (types_of c.args.at)) c.args.locals.now)) c.args.line _
    c.args.body.now c.begin_locals.new.body _ refl tt c.in_ok-begin_locals.ensures c.rounds.new.body _ _ _
    (emit-step {next_view = nothing} _ refl c.in_ok-initialize_all.ensures
    (run-same (λ j. looped (inside_view c.args.at) c.args.line (option_map (value_view (types_of c.args.at)) (sym c.given.ensures j))
    (lowers (inside_view c.args.at) (stmt_view (types_of c.args.at) c.args.a.now))
    (option_map (value_view (types_of c.args.at)) (sym c.given-2.ensures j)))
    c.in_err-rounds.ensures)) (exits c.from_residual-in_err-rounds.result _ c.from_residual-in_err-rounds.ensures.1)

pub rounds_with-returns : goal.rounds_with-returns
rounds_with-returns t c =
    block-closed (rows_of c.args.at) (inside_view c.args.at) (numbers_of (map (local_item_view (types_of c.args.at)) c.args.locals.now)) c.args.line _
    c.args.body.now c.begin_locals.new.body c.len-stay.result (c.len-stay.ensures ∙ c.args.body.now.objects.ok.0) tt c.in_ok-begin_locals.ensures
    c.rounds.new.body _ tt _
    (emit-step {next_view = nothing} _ refl c.in_ok-initialize_all.ensures
    (run-same (λ j. looped (inside_view c.args.at) c.args.line (option_map (value_view (types_of c.args.at)) (sym c.given.ensures j))
    (lowers (inside_view c.args.at) (stmt_view (types_of c.args.at) c.args.a.now))
    (option_map (value_view (types_of c.args.at)) (sym c.given-2.ensures j)))
    c.in_ok-rounds.ensures)) c.close_down_to.ensures
