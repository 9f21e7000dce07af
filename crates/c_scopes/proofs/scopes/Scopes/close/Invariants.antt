use Rattle.std.proofs.Common.{◌≡◌, length}
use Rattle.c_scopes.specs.Scopes.{innermost, outer_scopes}
use Rattle.c_scopes.proofs.scopes.Scopes.close.Given as goal

-- the scopes around the innermost stay
abbrev pub invariant-loop : goal.invariant-loop
invariant-loop g l = outer_scopes l.self ≡ outer_scopes l.initial.self

abbrev pub decreases-loop : goal.decreases-loop
decreases-loop g l = length (innermost l.self)
