use Rattle.std.proofs.Common.{[], arith}
use Rattle.c_parser.proofs.ParseLaws.{answers_refusal, deep_at_unit, deep_at_beginning, front_left, front_refused, slice_refusal}
use Rattle.c_parser.proofs.parser.in_front.Goals as goal

pub overflow_sub-rest : goal.overflow_sub-rest
overflow_sub-rest c = front_left c.args.src.now c.args.tokens.now c.args.at c.in-Err-Refused.left c.requires.within (rw c.in-Err-Refused.field-0-is at c.in-Err-Refused.ensures)

pub returns-in-Ok : goal.returns-in-Ok
returns-in-Ok c = deep_at_unit c.args.src.now c.args.tokens.now c.args.at _ c.in-Ok._unit [] c.requires.within c.requires.deep c.in-Ok.ensures

pub returns-then-left-eq0 : goal.returns-then-left-eq0
returns-then-left-eq0 c =
    deep_at_beginning c.args.src.now c.args.tokens.now c.args.at c.in-Err-Refused.left _ c.requires.within c.requires.deep c.if-left-eq0.true (rw c.in-Err-Refused.field-0-is at c.in-Err-Refused.ensures)

pub returns-else-left-eq0 : goal.returns-else-left-eq0
returns-else-left-eq0 c =
    answers_refusal c.args.tokens.now c.args.src.now c.refusal.result
    (front_refused c.args.src.now c.args.tokens.now c.args.at c.in-Err-Refused.left c.refusal.result c.requires.within c.requires.deep (rw c.in-Err-Refused.field-0-is at c.in-Err-Refused.ensures) (grind (arith, c.if-left-eq0.false)) (slice_refusal c.args.src.now c.args.tokens.now _ c.refusal.result c.refusal.ensures))
