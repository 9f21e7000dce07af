use Rattle.std.proofs.Common.{◌≡◌, ◌++◌, map}
use Rattle.c_types.specs.Table.{type_at}
use Rattle.lower.specs.Programs.{type_of_function}
use Rattle.lower.proofs.types.fun_types.Given as goal

abbrev pub invariant-loop-of : goal.invariant-loop-of
invariant-loop-of l =
    l.found.items ++ map type_of_function (map (type_at l.types) l.of-iterator) ≡ map type_of_function (map (type_at l.types) l.known.keys)
