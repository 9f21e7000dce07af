use Rattle.std.proofs.Common.{◌≡◌, ◌+◌, ◌*◌, ◌-◌, [], ◌∷◌}
use Rattle.c_expr.specs.Codes.{comma}
use Rattle.c_expr.specs.Spelling.{push}
use Rattle.c_expr.specs.Reading as reading
use Rattle.c_expr.specs.Reading.{begins, until}
use Rattle.c_parser.specs.ReadingUnits as units
use Rattle.c_parser.specs.UnitOutcome.{at_source}
use Rattle.c_parser.proofs.source.Source.+initializer.Given as goal

abbrev pub decreases-initializer : goal.decreases-initializer
decreases-initializer l = 4 * l.left

abbrev pub decreases-next_initializer : goal.decreases-next_initializer
decreases-next_initializer l = 4 * l.left + 1

abbrev pub decreases-initializers : goal.decreases-initializers
decreases-initializers l = 4 * l.left + 2

abbrev pub decreases-initializer_list : goal.decreases-initializer_list
decreases-initializer_list l = 4 * l.left + 3

abbrev pub invariant-initializers-loop-turn : goal.invariant-initializers-loop-turn
invariant-initializers-loop-turn l =
    reading.grown_from (begins (comma ∷ [])) push (reading.behind_comma (at_source units.initializer_at l.self.src.now l.self.depth l.left)) (l._turn-end - l._turn) l.found l.rest
    ≡ reading.listed (at_source units.initializer_at l.self.src.now l.self.depth l.left) l.fn.tokens
