use Rattle.std.proofs.Common.{◌≡◌, ◌-◌, [], ◌∷◌}
use Rattle.c_expr.specs.Codes.{comma}
use Rattle.c_expr.specs.Spelling.{push}
use Rattle.c_expr.specs.Reading as reading
use Rattle.c_expr.specs.Reading.{begins, until}
use Rattle.c_parser.specs.ReadingUnits as units
use Rattle.c_parser.specs.UnitParts as parts
use Rattle.c_parser.specs.UnitOutcome.{at_source}
use Rattle.c_parser.proofs.source.Source.items_behind.Given as goal

abbrev pub invariant-loop-turn : goal.invariant-loop-turn
invariant-loop-turn l =
    reading.grown_from (begins (comma ∷ [])) push (reading.behind_comma (at_source units.item l.self.src.now l.self.depth l.self.depth)) (l._turn-end - l._turn) l.found l.rest
    ≡ at_source parts.items_behind l.self.src.now l.self.depth l.self.depth l.fn.before l.fn.tokens
