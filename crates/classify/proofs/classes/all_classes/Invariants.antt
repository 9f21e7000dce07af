use Rattle.std.proofs.Common.{◌≡◌, ◌+◌, ◌++◌, length, drop, vec_len}
use Rattle.std.specs.Prelude.{sum_by, vec_capacity}
use Rattle.mid_code.specs.Classes.{shared_program, sharings_of, site_count, instruction_sites, all_classes_from, classes_of}
use Rattle.classify.proofs.classes.all_classes.Given as goal

-- the rows so far, and those of the functions that are left, are all
abbrev pub invariant-loop-index : goal.invariant-loop-index
invariant-loop-index l = record {
  all : l.rows.items ++ all_classes_from (l.given + 1) (sharings_of l.program.main_functions (drop l.index l.shared) (drop l.index l.functions)) ≡ classes_of (shared_program l.program l.shared);
  sites : l.given + sum_by site_count (sharings_of l.program.main_functions (drop l.index l.shared) (drop l.index l.functions)) ≡ instruction_sites (shared_program l.program l.shared);
  room : vec_len l.rows ≡ l.index;
  reserved : vec_capacity l.rows ≡ length l.shared;
}
