use Rattle.std.proofs.Common.{◌≡◌, ◌+◌, ◌≤◌, drop}
use Rattle.std.specs.Prelude.{sum_by}
use Rattle.mid_code.specs.Classes.{shared_program, sharings_of, site_count, all_sites}
use Rattle.classify.proofs.classes.has_many_sites.Given as goal

-- the sites so far, and those of the functions that are left, are all; and so far they are not too many
abbrev pub invariant-loop-index : goal.invariant-loop-index
invariant-loop-index l = record {
  all : l.sites + sum_by site_count (sharings_of l.program.main_functions (drop l.index l.shared) (drop l.index l.functions)) ≡ all_sites (shared_program l.program l.shared);
  few : l.sites ≤ 65535;
}
