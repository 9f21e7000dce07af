use Rattle.std.proofs.Common.{◌∙◌, [], ◌∷◌, arith, rules}
use Rattle.c_expr.specs.Codes.{comma}
use Rattle.c_expr.specs.Spelling.{push}
use Rattle.c_expr.specs.Reading as reading
use Rattle.c_expr.specs.Reading.{begins, until}
use Rattle.c_parser.specs.ReadingUnits as units
use Rattle.c_parser.specs.UnitOutcome.{at_source}
use Rattle.c_expr.proofs.Loops.{grown_turn}
use Rattle.c_parser.proofs.source.Source.+initializer.Goals as goal

pub initializers-loop-turn-preserved : goal.initializers-loop-turn-preserved
initializers-loop-turn-preserved t c =
    grown_turn (begins (comma ∷ [])) push (reading.behind_comma (at_source units.initializer_at c.args.self.now.src.now c.args.self.now.depth c.args.left)) _ _ _ _ _ _ _
    (omega arith) (search rules) c.in_ok-next.ensures c.in_ok-push-2.ensures.ok
    ∙ c.loop-turn.invariant
