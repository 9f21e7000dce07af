use Rattle.std.proofs.Common.{◌≡◌, ◌+◌, ◌-◌, ◌++◌, drop, vec_len}
use Rattle.std.specs.Prelude.{vec_capacity}
use Rattle.mid_code.specs.Versions.{with_line}
use Rattle.version_code.proofs.lines.Lines.add.Given as goal

-- those so far, and those that are left, are all; and each has taken room for one
abbrev pub invariant-loop-op : goal.invariant-loop-op
invariant-loop-op l = record {
  all : l.self-inside.code.items ++ with_line l.line (drop l.op-index l.ops) ≡ l.fn.self.code ++ with_line l.line l.ops;
  room : vec_capacity l.self-inside.code - vec_len l.self-inside.code + l.op-index ≡ l.fn.self.room;
}
