use Rattle.std.proofs.Common.{◌∙◌, [], ◌∷◌, ◌++◌, arith, rules}
use Rattle.c_expr.specs.Codes.{text}
use Rattle.c_expr.specs.Nodes.{text_of}
use Rattle.c_expr.specs.Reading as reading
use Rattle.c_expr.specs.Reading.{begins}
use Rattle.c_expr.proofs.Loops.{grown_turn}
use Rattle.c_expr.proofs.expression.text_bytes_behind.Goals as goal

pub loop-turn-preserved : goal.loop-turn-preserved
loop-turn-preserved c =
    grown_turn (begins (text ∷ [])) (λ found t. found ++ text_of c.args.src.now t) (reading.one text) _ _ _ _ _ _ _
    (omega arith) (search rules) c.in_ok-text.ensures.found (search rules)
    ∙ c.loop-turn.invariant
