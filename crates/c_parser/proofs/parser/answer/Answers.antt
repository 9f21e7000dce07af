use Rattle.std.proofs.Common.{sym, ◌∙◌}
use Rattle.c_parser.proofs.Depths.{deep_within}
use Rattle.c_parser.proofs.parser.answer.Goals as goal

pub in_front-requires-clause-within : goal.in_front-requires-clause-within
in_front-requires-clause-within c = deep_within c.args.tokens.now c.in-Some.at (sym c.in_ok-first_too_deep.ensures ∙ c.in-Some.is)
