use Rattle.std.proofs.Common.{◌≡◌, ◌++◌, length, map}
use Rattle.c_types.specs.Types.{parameters_of}
use Rattle.c_types.specs.Table.{type_at}
use Rattle.lower.specs.Emitting.{kind_of}
use Rattle.lower.proofs.types.fun_type.Given as goal

abbrev pub invariant-loop-first : goal.invariant-loop-first
invariant-loop-first l =
    l.params.items ++ map kind_of (parameters_of (type_at l.types l.rest)) ≡ map kind_of (parameters_of (type_at l.types l.of))

abbrev pub decreases-loop-first : goal.decreases-loop-first
decreases-loop-first l = length (parameters_of (type_at l.types l.rest))
