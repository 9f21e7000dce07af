use Rattle.std.proofs.Common.{◌≡◌, ◌+◌, ◌++◌, length, drop}
use Rattle.mid_code.specs.Versions.{trailing, groups_from, place_in}
use Rattle.version_code.specs.Places.{moved_by}
use Rattle.gen_trailing.proofs.versions.groups.Given as goal

-- the groups so far, and those of what is left, are all; and there is room for all
abbrev pub invariant-loop-index : goal.invariant-loop-index
invariant-loop-index l = record {
  all : l.lines.code ++ groups_from trailing (moved_by l.starts) l.index (drop l.index l.classes) (drop l.index l.code)
      ≡ groups_from trailing (moved_by l.starts) 0 l.classes l.code;
  room : l.lines.room + place_in trailing l.classes l.code l.index ≡ place_in trailing l.classes l.code (length l.code);
}
