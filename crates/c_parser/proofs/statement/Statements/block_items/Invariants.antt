use Rattle.std.proofs.Common.{◌≡◌, ◌-◌}
use Rattle.c_expr.specs.Codes.{close_brace}
use Rattle.c_expr.specs.Spelling.{push}
use Rattle.c_expr.specs.Reading as reading
use Rattle.c_expr.specs.Reading.{until}
use Rattle.c_parser.specs.ReadingUnits as units
use Rattle.c_parser.specs.UnitOutcome.{at_statement}
use Rattle.c_parser.proofs.statement.Statements.block_items.Given as goal

abbrev pub invariant-loop-turn : goal.invariant-loop-turn
invariant-loop-turn g l =
    reading.grown_from (until close_brace) push (at_statement units.block_item l.self.source.src.now l.self.source.depth l.self.left) (l._turn-end - l._turn) l.found l.rest
    ≡ at_statement units.block_items l.self.source.src.now l.self.source.depth l.self.left l.fn.tokens
