use Rattle.std.proofs.Common.{◌≡◌, ◌-◌, [], ◌∷◌}
use Rattle.c_expr.specs.declared.start.Start.TheVariants as start
use Rattle.c_expr.specs.Codes.{comma}
use Rattle.c_expr.specs.Spelling.{push}
use Rattle.c_expr.specs.Reading as reading
use Rattle.c_expr.specs.Reading.{begins}
use Rattle.c_expr.proofs.grammar.Grammar.some_arguments.Given as goal

abbrev pub invariant-loop-turn : goal.invariant-loop-turn
invariant-loop-turn g l =
    reading.grown_from (begins (comma ∷ [])) push (reading.behind_comma (reading.expr_at l.self.src.now l.self.depth start.Assignment)) (l._turn-end - l._turn) l.found l.rest
    ≡ reading.listed (reading.expr_at l.self.src.now l.self.depth start.Assignment) l.fn.tokens
