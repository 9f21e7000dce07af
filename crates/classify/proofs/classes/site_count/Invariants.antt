use Rattle.std.proofs.Common.{◌≡◌, ◌+◌, ◌≤◌, drop}
use Rattle.mid_code.specs.Classes.{sharings, site_count}
use Rattle.classify.proofs.classes.site_count.Given as goal

-- the sites so far, and those of what is left, are all
abbrev pub invariant-loop-place : goal.invariant-loop-place
invariant-loop-place l = record {
  all : l.count + site_count (sharings l.mains l.shared l.place (drop l.place l.code)) ≡ site_count (sharings l.mains l.shared 0 l.code);
  few : l.count ≤ l.place;
}
