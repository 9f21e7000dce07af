use Rattle.std.proofs.Common.{◌∙◌, arith, rules}
use Rattle.c_expr.specs.Codes.{specifier_starts}
use Rattle.c_expr.specs.Spelling.{push}
use Rattle.c_expr.specs.Reading.{begins}
use Rattle.c_parser.specs.ReadingUnits as units
use Rattle.c_parser.specs.UnitOutcome.{at_source}
use Rattle.c_expr.proofs.Loops.{grown_turn}
use Rattle.c_parser.proofs.unit.externals.Goals as goal

pub loop-turn-preserved : goal.loop-turn-preserved
loop-turn-preserved c =
    grown_turn (begins specifier_starts) push (at_source units.external c.args.source.src.now c.args.source.depth c.args.source.depth) _ _ _ _ _ _ _
    (omega arith) (search rules) c.in_ok-next.ensures c.in_ok-push.ensures.ok
    ∙ c.loop-turn.invariant
