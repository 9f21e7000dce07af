use Rattle.std.proofs.Common.{◌≡◌, ◌+◌, ◌++◌, ◌≤◌, map, take, slice_index, vec_capacity}
use Rattle.frames.proofs.frames.append_arguments.Given as goal

abbrev pub invariant-loop-register : goal.invariant-loop-register
invariant-loop-register l = record {
  items : l.registers.items ≡ l.fn.registers.items ++ map (λ r. slice_index l.fn.registers.items (l.base + r)) (take l.register-index l.args);
  capacity : vec_capacity l.fn.registers ≤ vec_capacity l.registers;
}
