use Rattle.c_typing.proofs.Bodies.{ended, ended-told}
use Rattle.c_typing.proofs.function.end_function.Goals as goal

pub returns-in_err-locals : goal.returns-in_err-locals
returns-in_err-locals c t begin end is stands body =
    ended-told c.args.known.now _ c.in_err-locals.field-0.0 c.from_residual.result c.args.head.entity c.args.head.line t c.args.head.parameters begin end is
    c.in_err-locals.ensures c.from_residual.ensures.1

pub returns : goal.returns
returns c t begin end is stands body =
    ended c.args.known.now _ c.args.head.entity c.args.head.line c.args.head.ty t c.args.head.parameters begin end c.in_ok-locals.locals c.args.body is stands body
    c.in_ok-locals.ensures c.close_function.ensures
