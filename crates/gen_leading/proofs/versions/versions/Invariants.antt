use Rattle.std.proofs.Common.{◌≡◌, ◌++◌, length, drop, vec_len}
use Rattle.std.specs.Prelude.{vec_capacity}
use Rattle.mid_code.specs.Versions.{leading, versions_from}
use Rattle.gen_leading.proofs.versions.versions.Given as goal

-- the versions so far, and those of the functions that are left, are all
abbrev pub invariant-loop-index : goal.invariant-loop-index
invariant-loop-index l = record {
  all : l.versions.items ++ versions_from leading (drop l.index l.classes) (drop l.index l.functions) ≡ versions_from leading l.classes l.functions;
  room : vec_len l.versions ≡ l.index;
  reserved : vec_capacity l.versions ≡ length l.functions;
}
