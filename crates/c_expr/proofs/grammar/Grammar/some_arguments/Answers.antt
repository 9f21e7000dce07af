use Rattle.std.proofs.Common.{◌∙◌, [], ◌∷◌, arith, rules}
use Rattle.c_expr.specs.declared.start.Start.TheVariants as start
use Rattle.c_expr.specs.Codes.{comma}
use Rattle.c_expr.specs.Spelling.{push}
use Rattle.c_expr.specs.Reading as reading
use Rattle.c_expr.specs.Reading.{begins}
use Rattle.c_expr.proofs.Loops.{grown_turn}
use Rattle.c_expr.proofs.grammar.Grammar.some_arguments.Goals as goal

pub loop-turn-preserved : goal.loop-turn-preserved
loop-turn-preserved g c =
    grown_turn (begins (comma ∷ [])) push (reading.behind_comma (reading.expr_at c.args.self.now.src.now c.args.self.now.depth start.Assignment)) _ _ _ _ _ _ _
    (omega arith) (search rules) c.in_ok-next.ensures c.in_ok-push-2.ensures.ok
    ∙ c.loop-turn.invariant
