use Rattle.std.proofs.Common.{◌≡◌, ◌-◌, [], ◌∷◌}
use Rattle.c_expr.specs.Codes.{comma}
use Rattle.c_expr.specs.Spelling.{push}
use Rattle.c_expr.specs.Reading as reading
use Rattle.c_expr.specs.Reading.{begins}
use Rattle.c_expr.specs.Outcome.{at_depth}
use Rattle.c_expr.proofs.grammar.Grammar.parameters.Given as goal

abbrev pub invariant-loop-turn : goal.invariant-loop-turn
invariant-loop-turn g l =
    reading.grown_from (begins (comma ∷ [])) push (reading.behind_comma (at_depth reading.parameter l.self.src.now l.self.depth)) (l._turn-end - l._turn) l.found l.rest
    ≡ at_depth reading.parameters l.self.src.now l.self.depth l.fn.tokens
