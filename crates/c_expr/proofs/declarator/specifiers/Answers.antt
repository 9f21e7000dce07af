use Rattle.std.proofs.Common.{◌∙◌, arith, rules}
use Rattle.c_expr.specs.Codes.{specifier_starts}
use Rattle.c_expr.specs.Spelling.{push}
use Rattle.c_expr.specs.Reading as reading
use Rattle.c_expr.specs.Reading.{begins}
use Rattle.c_expr.proofs.Loops.{grown_turn}
use Rattle.c_expr.proofs.declarator.specifiers.Goals as goal

pub loop-turn-preserved : goal.loop-turn-preserved
loop-turn-preserved c =
    grown_turn (begins specifier_starts) push reading.specifier _ _ _ _ _ _ _
    (omega arith) (search rules) c.in_ok-word.ensures c.in_ok-push-2.ensures.ok
    ∙ c.loop-turn.invariant
