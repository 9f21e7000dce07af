use Rattle.std.proofs.Common.{◌≡◌, map}
use Rattle.c_operators.specs.Arguments.{value_in}
use Rattle.c_operators.proofs.arguments.values_of.Given as goal

-- the values of those that were taken out
abbrev pub invariant-loop-operand : goal.invariant-loop-operand
invariant-loop-operand l = l.found ≡ map value_in l.yielded
