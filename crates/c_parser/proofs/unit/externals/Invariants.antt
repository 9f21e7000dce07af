use Rattle.std.proofs.Common.{◌≡◌, ◌-◌}
use Rattle.c_expr.specs.Codes.{specifier_starts}
use Rattle.c_expr.specs.Spelling.{push}
use Rattle.c_expr.specs.Reading as reading
use Rattle.c_expr.specs.Reading.{begins, until}
use Rattle.c_parser.specs.ReadingUnits as units
use Rattle.c_parser.specs.UnitParts as parts
use Rattle.c_parser.specs.UnitOutcome.{at_source}
use Rattle.c_parser.proofs.unit.externals.Given as goal

abbrev pub invariant-loop-turn : goal.invariant-loop-turn
invariant-loop-turn l =
    reading.grown_from (begins specifier_starts) push (at_source units.external l.source.src.now l.source.depth l.source.depth) (l._turn-end - l._turn) l.found l.rest
    ≡ at_source parts.externals l.source.src.now l.source.depth l.source.depth l.fn.tokens
