use Rattle.std.proofs.Common.{◌∙◌, [], ◌∷◌, arith, rules}
use Rattle.c_expr.specs.Codes.{star}
use Rattle.c_expr.specs.Spelling.{push}
use Rattle.c_expr.specs.Reading as reading
use Rattle.c_expr.specs.Reading.{begins}
use Rattle.c_expr.proofs.Loops.{grown_turn}
use Rattle.c_expr.proofs.declarator.pointers.Goals as goal

pub loop-turn-preserved : goal.loop-turn-preserved
loop-turn-preserved c =
    grown_turn (begins (star ∷ [])) push reading.pointer _ _ _ _ _ _ _
    (omega arith) (search rules) c.in_ok-next.ensures c.in_ok-push.ensures.ok
    ∙ c.loop-turn.invariant
