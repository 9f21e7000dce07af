use Rattle.std.proofs.Common.{◌≡◌, ◌-◌}
use Rattle.c_expr.specs.Codes.{kinds, qualifiers}
use Rattle.c_expr.specs.Nodes.{qualified}
use Rattle.c_expr.specs.Reading as reading
use Rattle.c_expr.specs.Reading.{begins}
use Rattle.c_expr.proofs.declarator.pointer.Given as goal

abbrev pub invariant-loop-turn : goal.invariant-loop-turn
invariant-loop-turn l =
    reading.grown_from (begins (kinds qualifiers)) (λ p q. qualified p q.1) (reading.sign qualifiers) (l._turn-end - l._turn) l.pointer l.rest
    ≡ reading.pointer l.fn.tokens
