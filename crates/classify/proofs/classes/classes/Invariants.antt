use Rattle.std.proofs.Common.{◌≡◌, ◌+◌, ◌++◌, length, drop, vec_len}
use Rattle.std.specs.Prelude.{vec_capacity}
use Rattle.mid_code.specs.Classes.{sharings, site_count, classes_from}
use Rattle.classify.proofs.classes.classes.Given as goal

-- the classes so far, and those of what is left, are all
abbrev pub invariant-loop-place : goal.invariant-loop-place
invariant-loop-place l = record {
  all : l.row.items ++ classes_from (l.given + 1) (sharings l.mains l.shared l.place (drop l.place l.code)) ≡ classes_from (l.fn.given + 1) (sharings l.mains l.shared 0 l.code);
  sites : l.given + site_count (sharings l.mains l.shared l.place (drop l.place l.code)) ≡ l.fn.given + site_count (sharings l.mains l.shared 0 l.code);
  room : vec_len l.row ≡ l.place;
  reserved : vec_capacity l.row ≡ length l.code;
}
