-- Where the places of a function's code are in a version.
use Rattle.std.specs.Prelude.{◌≡◌, ℕ, ◌+◌, ◌-◌, ◌≤◌, nat_lt, if◌then◌else◌, List, length, slice_index}
use Rattle.mid_code.specs.declared.class.Class.{Class}
use Rattle.mid_code.specs.declared.program.MidLine.{MidLine}
use Rattle.mid_code.specs.Versions.{Table, place_in}

-- the places at which the groups begin, and that at which the last ends
pub record ArePlaces (table : Table) (cs : List Class) (code : List MidLine) (starts : List ℕ) : Type 0 where
  pub count : length starts ≡ length code + 1
  pub each : (place : ℕ) → place ≤ length code → slice_index starts place ≡ place_in table cs code place

-- where a place moves by them: one past the last moves to the end
abbrev pub moved_by : List ℕ → ℕ → ℕ
moved_by starts place = if nat_lt place (length starts) then slice_index starts place else slice_index starts (length starts - 1)
