use Rattle.std.proofs.Common.{◌≡◌, ◌-◌, [], ◌∷◌, ◌++◌}
use Rattle.c_expr.specs.Codes.{text}
use Rattle.c_expr.specs.Nodes.{text_of}
use Rattle.c_expr.specs.Reading as reading
use Rattle.c_expr.specs.Reading.{begins}
use Rattle.c_expr.specs.Parts as parts
use Rattle.c_expr.proofs.expression.text_bytes_behind.Given as goal

abbrev pub invariant-loop-turn : goal.invariant-loop-turn
invariant-loop-turn l =
    reading.grown_from (begins (text ∷ [])) (λ found t. found ++ text_of l.src t) (reading.one text) (l._turn-end - l._turn) l.bytes l.rest
    ≡ parts.texts_behind l.src l.fn.before l.fn.tokens
