use Rattle.std.proofs.Common.{◌+◌, ◌∙◌, map, drop, ap}
use Rattle.std.specs.HashSet.{HashSet}
use Rattle.std.proofs.lemmas.List.{drop_all}
use Rattle.c_types.specs.declared.type_ref.TypeRef.{TypeRef}
use Rattle.c_types.specs.Table.{type_at}
use Rattle.c_typed.specs.StatementViews.{function_view, program_view}
use Rattle.source_meaning.specs.Places.{file_of}
use Rattle.lower.specs.declared.refusal.LowerRefusal.TheVariants.{Memory}
use Rattle.lower.specs.Programs.{lowered_functions}
use Rattle.lower.proofs.Steps.{exits}
use Rattle.lower.proofs.LoweredFunctions.{functions_of, next-function, reaches-start, reaches-pushed, refused-left, memory-left, all-reached}
use Rattle.lower.proofs.programs.lower_part.Goals as goal

pub loop-function-init : goal.loop-function-init
loop-function-init c = λ types are.
    let p = program_view c.args.program.now in
    let rows = c.args.program.now.types in
    reaches-start {K = HashSet TypeRef _} (λ known. known.keys) rows p c.args.part c.args.lowered.now.items c.args.known.keys types
    (map (function_view (type_at rows)) c.as_slice-function-items.result.now) (file_of c.args.part p).functions are
    (ap (map (function_view (type_at rows))) c.as_slice-function-items.ensures
    ∙ functions_of (type_at rows) c.file_of.result.now (file_of c.args.part p) c.file_of.ensures)

pub loop-function-preserved : goal.loop-function-preserved
loop-function-preserved c = λ types are.
    let h = c.loop-function.invariant types are in
    let p = program_view c.args.program.now in
    let rows = c.args.program.now.types in
    let fs = c.as_slice-function-items.result.now in
    let i = c.loop-function.function-index in
    let f = c.function-item.result in
    reaches-pushed {K = HashSet TypeRef _} (λ known. known.keys) rows p c.args.part c.args.lowered.now.items c.loop-function.lowered.items
    c.push.new.self.items
    (function_view (type_at rows) f) (map (function_view (type_at rows)) (drop (i + 1) fs)) (map (function_view (type_at rows)) (drop i fs))
    (lowered_functions p c.args.part (file_of c.args.part p).functions types) h.types c.in_ok-found.found
    (next-function (type_at rows) fs i f c.loop-function-test.true c.function-item.is) c.in_ok-push.ensures.items h.continues
    (c.in_ok-found.ensures h.types h.are)

pub returns-in_err-found : goal.returns-in_err-found
returns-in_err-found c = λ types are.
    let h = c.loop-function.invariant types are in
    let p = program_view c.args.program.now in
    let rows = c.args.program.now.types in
    let fs = c.as_slice-function-items.result.now in
    let i = c.loop-function.function-index in
    let f = c.function-item.result in
    refused-left {K = HashSet TypeRef _} (λ known. known.keys) rows p c.args.part c.args.lowered.now.items c.loop-function.lowered.items
    c.loop-function.lowered.items
    (function_view (type_at rows) f) (map (function_view (type_at rows)) (drop (i + 1) fs)) (map (function_view (type_at rows)) (drop i fs))
    (lowered_functions p c.args.part (file_of c.args.part p).functions types) h.types _ c.from_residual.result
    (exits c.from_residual.result _ c.from_residual.ensures.1)
    (next-function (type_at rows) fs i f c.loop-function-test.true c.function-item.is) h.continues
    (c.in_err-found.ensures h.types h.are)

pub returns-in_err-push : goal.returns-in_err-push
returns-in_err-push c = λ types are.
    let p = program_view c.args.program.now in
    memory-left {K = HashSet TypeRef _} (λ known. known.keys) c.args.program.now.types c.args.lowered.now.items c.push.new.self.items
    (lowered_functions p c.args.part (file_of c.args.part p).functions types) c.from_residual-in_err-push.result
    (exits c.from_residual-in_err-push.result Memory c.from_residual-in_err-push.ensures.1)

pub returns : goal.returns
returns c = λ types are.
    let h = c.loop-function.invariant types are in
    let p = program_view c.args.program.now in
    let rows = c.args.program.now.types in
    all-reached {K = HashSet TypeRef _} (λ known. known.keys) rows p c.args.part c.args.lowered.now.items c.loop-function.lowered.items
    (map (function_view (type_at rows)) (drop c.loop-function.function-index c.as_slice-function-items.result.now))
    (lowered_functions p c.args.part (file_of c.args.part p).functions types) h.types c.loop-function.known h.continues
    (ap (map (function_view (type_at rows))) (drop_all c.loop-function.function-index c.as_slice-function-items.result.now c.loop-function-test.false)) h.are
