use Rattle.std.proofs.Common.{◌≡◌, ℕ, ◌+◌, ◌≤◌, length, vec_len}
use Rattle.std.specs.Prelude.{slice_index, vec_capacity}
use Rattle.mid_code.specs.Versions.{leading, place_in}
use Rattle.gen_leading.proofs.versions.starts.Given as goal

-- the places up to this one are there
abbrev pub invariant-loop-index : goal.invariant-loop-index
invariant-loop-index l = record {
  count : length l.starts.items ≡ l.index + 1;
  each : (place : ℕ) → place ≤ l.index → slice_index l.starts.items place ≡ place_in leading l.classes l.code place;
  last : l.start ≡ place_in leading l.classes l.code l.index;
  room : vec_len l.starts ≡ l.index + 1;
  reserved : vec_capacity l.starts ≡ length l.code + 1;
}
