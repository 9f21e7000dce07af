use Rattle.std.proofs.Common.{sym, arith}
use Rattle.c_lexer.proofs.Decoding.{one_byte_none, one_byte_all, one_byte_more}
use Rattle.c_lexer.proofs.quoted.one_byte.Goals as goal

pub returns-in-None : goal.returns-in-None
returns-in-None c = sym (one_byte_none c.args.body.now (sym c.in-None.ensures.value))

pub returns-then-len-body : goal.returns-then-len-body
returns-then-len-body c = sym (one_byte_all c.args.body.now (c.in-Some.b, c.in-Some.len) (sym c.in-Some.ensures.value) (omega arith))

pub returns-else-len-body : goal.returns-else-len-body
returns-else-len-body c = sym (one_byte_more c.args.body.now (c.in-Some.b, c.in-Some.len) (sym c.in-Some.ensures.value) (omega (arith, c.in-Some.ensures.within.1)))
