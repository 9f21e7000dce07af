use Rattle.std.proofs.Common.{◌∙◌, arith, rules}
use Rattle.c_expr.specs.Codes.{suffix_starts}
use Rattle.c_expr.specs.Spelling.{push}
use Rattle.c_expr.specs.Reading as reading
use Rattle.c_expr.specs.Reading.{begins}
use Rattle.c_expr.specs.Outcome.{at_depth}
use Rattle.c_expr.proofs.Loops.{grown_turn}
use Rattle.c_expr.proofs.grammar.Grammar.suffixes.Goals as goal

pub loop-turn-preserved : goal.loop-turn-preserved
loop-turn-preserved g c =
    grown_turn (begins suffix_starts) push (at_depth reading.suffix c.args.self.now.src.now c.args.self.now.depth) _ _ _ _ _ _ _
    (omega arith) (search rules) c.in_ok-next.ensures c.in_ok-longer.ensures
    ∙ c.loop-turn.invariant
