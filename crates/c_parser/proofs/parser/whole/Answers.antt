use Rattle.std.proofs.Common.{[]}
use Rattle.c_parser.proofs.ParseLaws.{answers_unit, answers_refusal, refused_left, whole_refused, slice_refusal}
use Rattle.c_parser.proofs.parser.whole.Goals as goal

pub overflow_sub-rest : goal.overflow_sub-rest
overflow_sub-rest c = refused_left c.args.src.now c.args.tokens.now c.in-Err-Refused.left (rw c.in-Err-Refused.field-0-is at c.in-Err-Refused.ensures)

pub returns-in-Ok : goal.returns-in-Ok
returns-in-Ok c = answers_unit c.args.tokens.now c.args.src.now c.in-Ok.unit [] c.requires.none c.in-Ok.ensures

pub returns-in-Err-Refused : goal.returns-in-Err-Refused
returns-in-Err-Refused c =
    answers_refusal c.args.tokens.now c.args.src.now c.refusal.result
    (whole_refused c.args.src.now c.args.tokens.now c.in-Err-Refused.left c.refusal.result c.requires.none (rw c.in-Err-Refused.field-0-is at c.in-Err-Refused.ensures) (slice_refusal c.args.src.now c.args.tokens.now _ c.refusal.result c.refusal.ensures))
