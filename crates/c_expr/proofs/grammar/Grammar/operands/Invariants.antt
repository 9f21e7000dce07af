use Rattle.std.proofs.Common.{◌≡◌, ◌-◌, [], ◌∷◌}
use Rattle.c_expr.specs.Codes.{comma}
use Rattle.c_expr.specs.Nodes.{with_operand}
use Rattle.c_expr.specs.Reading as reading
use Rattle.c_expr.specs.Reading.{begins}
use Rattle.c_expr.specs.Parts as parts
use Rattle.c_expr.specs.Outcome.{at_depth}
use Rattle.c_expr.proofs.grammar.Grammar.operands.Given as goal

abbrev pub invariant-loop-turn : goal.invariant-loop-turn
invariant-loop-turn g l =
    reading.grown_from (begins (comma ∷ [])) with_operand (reading.behind_comma (at_depth reading.assignment l.self.src.now l.self.depth)) (l._turn-end - l._turn) (l.dropped, l.last) l.rest
    ≡ at_depth parts.operands l.self.src.now l.self.depth l.fn.first l.fn.tokens
