use Rattle.std.proofs.Common.{◌∙◌, arith, rules}
use Rattle.c_expr.specs.Codes.{close_brace}
use Rattle.c_expr.specs.Spelling.{push}
use Rattle.c_expr.specs.Reading.{until}
use Rattle.c_parser.specs.ReadingUnits as units
use Rattle.c_parser.specs.UnitOutcome.{at_statement}
use Rattle.c_expr.proofs.Loops.{grown_turn}
use Rattle.c_parser.proofs.statement.Statements.block_items.Goals as goal

pub loop-turn-preserved : goal.loop-turn-preserved
loop-turn-preserved g c =
    grown_turn (until close_brace) push (at_statement units.block_item c.args.self.now.source.src.now c.args.self.now.source.depth c.args.self.now.left) _ _ _ _ _ _ _
    (omega arith) (search rules) c.in_ok-next.ensures c.in_ok-push.ensures.ok
    ∙ c.loop-turn.invariant
