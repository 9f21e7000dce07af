use Rattle.c_typing.proofs.Bodies.{body-by, body-told, result-stands, type-later}
use Rattle.c_known.specs.Views.{line_in}
use Rattle.c_typing.proofs.function.check_body.Goals as goal

pub returns-in_err-body : goal.returns-in_err-body
returns-in_err-body c t stands =
    body-told c.args.known.now _ c.items.new.known c.in_err-body.field-0.0 c.from_residual.result (line_in c.args.file) c.args.d.now c.args.head.entity c.args.head.line t c.args.head.parameters
    (result-stands c.args.known.now.types c.args.head.ty c.result-returns.result t stands c.result-returns.ensures) c.in_err-body.ensures c.from_residual.ensures.1

pub returns : goal.returns
returns c t stands =
    body-by c.args.known.now _ _ c.in_ok-body.body c.end_function.result (line_in c.args.file) c.args.d.now c.args.head.entity c.args.head.line t c.args.head.parameters
    (result-stands c.args.known.now.types c.args.head.ty c.result-returns.result t stands c.result-returns.ensures) c.in_ok-body.ensures
    (λ is grown body. c.end_function.ensures t _ _ is (type-later _ _ grown c.args.head.ty t stands) body)
