use Rattle.std.proofs.Common.{◌∙◌, arith, rules}
use Rattle.c_expr.specs.Codes.{kinds, qualifiers}
use Rattle.c_expr.specs.Nodes.{qualified}
use Rattle.c_expr.specs.Reading as reading
use Rattle.c_expr.specs.Reading.{begins}
use Rattle.c_expr.proofs.Loops.{grown_turn}
use Rattle.c_expr.proofs.declarator.pointer.Goals as goal

pub loop-turn-preserved : goal.loop-turn-preserved
loop-turn-preserved c =
    grown_turn (begins (kinds qualifiers)) (λ p q. qualified p q.1) (reading.sign qualifiers) _ _ _ _ _ _ _
    (omega arith) (search rules) c.in_ok-_line.ensures c.qualified-pointer.ensures
    ∙ c.loop-turn.invariant
