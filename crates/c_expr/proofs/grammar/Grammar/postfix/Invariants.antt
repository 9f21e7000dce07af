use Rattle.std.proofs.Common.{◌≡◌, ◌-◌}
use Rattle.c_expr.specs.Codes.{postfix_starts}
use Rattle.c_expr.specs.Reading as reading
use Rattle.c_expr.specs.Reading.{begins}
use Rattle.c_expr.specs.Outcome.{at_depth}
use Rattle.c_expr.proofs.grammar.Grammar.postfix.Given as goal

abbrev pub invariant-loop-turn : goal.invariant-loop-turn
invariant-loop-turn g l =
    reading.grown_from (begins postfix_starts) (λ x part. part x) (at_depth reading.postfix_part l.self.src.now l.self.depth) (l._turn-end - l._turn) l.left l.rest
    ≡ at_depth reading.postfix l.self.src.now l.self.depth l.fn.tokens
