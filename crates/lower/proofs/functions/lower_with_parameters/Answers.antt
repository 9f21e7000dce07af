use Rattle.std.proofs.Common.{◌≡◌, arith, length, refl, ◌∙◌, ap, take}
use Rattle.c_typed.specs.StatementViews.{function_view}
use Rattle.source_meaning.specs.Calls.{numbers_below}
use Rattle.lower.specs.Programs.{parameters_at, parameters_begin, body_of}
use Rattle.lower.specs.Emits.{types_of, inside_view}
use Rattle.lower.proofs.Steps.{exits}
use Rattle.lower.proofs.RunSteps.{run-same}
use Rattle.lower.proofs.Blocks.{live, live-refused, begin-refused}
use Rattle.lower.proofs.FunctionParts.{with-row}
use Rattle.lower.proofs.functions.lower_with_parameters.Goals as goal

pub returns-in_err-begin_parameters : goal.returns-in_err-begin_parameters
returns-in_err-begin_parameters c =
    let i = inside_view c.args.at in
    let ns = numbers_below c.args.at.function.now.parameters in
    let f = function_view (types_of c.args.at) c.args.at.function.now in
    run-same (with-row (types_of c.args.at) c.args.at.function.now i)
    (begin-refused (λ start. parameters_at i.rows start ns) (parameters_begin i ns) (body_of i f) c.args.body.now c.begin_parameters.new.body
    c.begin_parameters.new.body (exits c.from_residual.result _ c.from_residual.ensures.1) c.in_err-begin_parameters.ensures)

pub returns-in_err-lower_body : goal.returns-in_err-lower_body
returns-in_err-lower_body c =
    let i = inside_view c.args.at in
    let ns = numbers_below c.args.at.function.now.parameters in
    let f = function_view (types_of c.args.at) c.args.at.function.now in
    run-same (with-row (types_of c.args.at) c.args.at.function.now i)
    (live-refused (λ start. parameters_at i.rows start ns) (parameters_begin i ns) (body_of i f) c.args.body.now c.begin_parameters.new.body
    c.lower_body.new.body c.lower_body.new.body (exits c.from_residual-in_err-lower_body.result _ c.from_residual-in_err-lower_body.ensures.1)
    c.in_ok-begin_parameters.ensures c.in_err-lower_body.ensures)

pub returns : goal.returns
returns c =
    let i = inside_view c.args.at in
    let stay : c.args.body.now.objects.len ≡ length c.args.body.now.objects.items = omega (arith, c.args.body.now.objects.ok.0) in
    let ns = numbers_below c.args.at.function.now.parameters in
    let f = function_view (types_of c.args.at) c.args.at.function.now in
    run-same (with-row (types_of c.args.at) c.args.at.function.now i)
    (live (λ start. parameters_at i.rows start ns) (parameters_begin i ns) (body_of i f) c.args.body.now c.begin_parameters.new.body
    c.lower_body.new.body (record c.lower_body.new.body { objects = c.truncate.new.self }) tt c.in_ok-begin_parameters.ensures c.in_ok-lower_body.ensures refl
    (c.truncate.ensures.items ∙ ap (λ n. take n c.lower_body.new.body.objects.items) (c.len-stay.ensures ∙ stay)) refl)
