use Rattle.std.proofs.Common.{◌∙◌, [], ◌∷◌, arith, rules, ap}
use Rattle.c_expr.specs.Codes.{comma}
use Rattle.c_expr.specs.Nodes.{with_operand}
use Rattle.c_expr.specs.Reading as reading
use Rattle.c_expr.specs.Reading.{begins}
use Rattle.c_expr.specs.Outcome.{at_depth}
use Rattle.c_expr.proofs.Loops.{grown_turn}
use Rattle.c_expr.proofs.grammar.Grammar.operands.Goals as goal

pub loop-turn-preserved : goal.loop-turn-preserved
loop-turn-preserved g c =
    grown_turn (begins (comma ∷ [])) with_operand (reading.behind_comma (at_depth reading.assignment c.args.self.now.src.now c.args.self.now.depth)) _ _ _ _ _ _ _
    (omega arith) (search rules) c.in_ok-next.ensures (ap (λ d. (d, c.in_ok-next.next)) c.in_ok-push.ensures.ok)
    ∙ c.loop-turn.invariant
