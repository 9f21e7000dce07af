use Rattle.std.proofs.Common.{◌≡◌, ◌+◌, ◌*◌, ◌-◌}
use Rattle.c_expr.specs.Codes.{kinds, binary_operators}
use Rattle.c_expr.specs.Reading as reading
use Rattle.c_expr.specs.Reading.{begins}
use Rattle.c_expr.specs.Parts as parts
use Rattle.c_expr.specs.Outcome.{at_depth}
use Rattle.c_expr.proofs.grammar.Grammar.+level.Given as goal

abbrev pub decreases-level : goal.decreases-level
decreases-level g l = 5 * l.levels + 2

abbrev pub decreases-climbed : goal.decreases-climbed
decreases-climbed g l = 5 * l.levels + 1

abbrev pub decreases-ladder : goal.decreases-ladder
decreases-ladder g l = 5 * l.levels

abbrev pub decreases-operations : goal.decreases-operations
decreases-operations g l = 5 * l.level + 4

abbrev pub decreases-operation : goal.decreases-operation
decreases-operation g l = 5 * l.level + 3

abbrev pub invariant-ladder-loop-level : goal.invariant-ladder-loop-level
invariant-ladder-loop-level g l =
    at_depth parts.ladder l.self.src.now l.self.depth (l.levels - l.level) l.level l.left l.rest
    ≡ at_depth parts.ladder l.self.src.now l.self.depth l.levels 0 l.fn.left l.fn.tokens

abbrev pub invariant-operations-loop-turn : goal.invariant-operations-loop-turn
invariant-operations-loop-turn g l =
    reading.grown_from (begins (kinds (binary_operators l.level))) (at_depth reading.operated l.self.src.now l.self.depth) (at_depth reading.operation l.self.src.now l.self.depth (binary_operators l.level) (at_depth reading.level l.self.src.now l.self.depth l.level)) (l._turn-end - l._turn) l.left l.rest
    ≡ at_depth parts.operations l.self.src.now l.self.depth l.level l.fn.left l.fn.tokens
