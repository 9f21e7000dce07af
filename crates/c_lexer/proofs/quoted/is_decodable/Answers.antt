use Rattle.std.proofs.Common.{sym, ◌∙◌, arith, rules}
use Rattle.std.proofs.lemmas.List.{take_rest}
use Rattle.c_lexer.proofs.Decoding.{is_some_goes, is_some_end, is_some_stops}
use Rattle.c_lexer.proofs.quoted.is_decodable.Goals as goal

pub returns-in-None : goal.returns-in-None
returns-in-None c = sym (is_some_stops c.loop-body.body.now (grind arith) (sym c.in-None.ensures.value)) ∙ c.loop-body.invariant.0

pub loop-body-preserved : goal.loop-body-preserved
loop-body-preserved c = (rw take_rest (is_some_goes c.loop-body.body.now (c.in-Some._value, c.in-Some.len) (sym c.in-Some.ensures.value) ∙ c.loop-body.invariant.0), search rules)

pub returns : goal.returns
returns c = sym (is_some_end c.loop-body.body.now (grind arith)) ∙ c.loop-body.invariant.0
