use Rattle.std.proofs.Common.{◌≡◌, ◌++◌, map, drop}
use Rattle.mid_code.specs.Closed.{all_of}
use Rattle.mid_code.proofs.class.everything_shared.Given as goal

-- the rows so far, and those of what is left, are those of all
abbrev pub invariant-loop-function : goal.invariant-loop-function
invariant-loop-function l = l.shared ++ map all_of (drop l.function-index l.functions) ≡ map all_of l.functions
