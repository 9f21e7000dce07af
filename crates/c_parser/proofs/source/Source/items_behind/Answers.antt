use Rattle.std.proofs.Common.{◌∙◌, [], ◌∷◌, arith, rules}
use Rattle.c_expr.specs.Codes.{comma}
use Rattle.c_expr.specs.Spelling.{push}
use Rattle.c_expr.specs.Reading as reading
use Rattle.c_expr.specs.Reading.{begins, until}
use Rattle.c_parser.specs.ReadingUnits as units
use Rattle.c_parser.specs.UnitOutcome.{at_source}
use Rattle.c_expr.proofs.Loops.{grown_turn}
use Rattle.c_parser.proofs.source.Source.items_behind.Goals as goal

pub loop-turn-preserved : goal.loop-turn-preserved
loop-turn-preserved c =
    grown_turn (begins (comma ∷ [])) push (reading.behind_comma (at_source units.item c.args.self.now.src.now c.args.self.now.depth c.args.self.now.depth)) _ _ _ _ _ _ _
    (omega arith) (search rules) c.in_ok-next.ensures c.in_ok-push.ensures.ok
    ∙ c.loop-turn.invariant
