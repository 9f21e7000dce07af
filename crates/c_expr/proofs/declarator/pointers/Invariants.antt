use Rattle.std.proofs.Common.{◌≡◌, ◌-◌, [], ◌∷◌}
use Rattle.c_expr.specs.Codes.{star}
use Rattle.c_expr.specs.Spelling.{push}
use Rattle.c_expr.specs.Reading as reading
use Rattle.c_expr.specs.Reading.{begins}
use Rattle.c_expr.proofs.declarator.pointers.Given as goal

abbrev pub invariant-loop-turn : goal.invariant-loop-turn
invariant-loop-turn l =
    reading.grown_from (begins (star ∷ [])) push reading.pointer (l._turn-end - l._turn) l.found l.rest
    ≡ reading.pointers l.fn.tokens
