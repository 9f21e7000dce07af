-- Locals that begin and end.
use Rattle.std.specs.Prelude.{◌≡◌, ℕ, true}
use Rattle.source_meaning.specs.World.{Doing, pure, either, set_local}
use Rattle.source_meaning.specs.Places.{Setting, row_of, object_begins, object_ends}
use Rattle.c_meaning.specs.declared.setting.At.{At}
use Rattle.c_meaning.specs.TaskViews.{current_view}
use Rattle.c_meaning.specs.Sound.{IsReady}
use Rattle.c_meaning.specs.Runs.{types_of, setting_of}

-- one local, as all of them begin and end
abbrev pub begins : Setting → ℕ → Doing (Unit {0})
begins s n = either (row_of s n).is_placed (object_begins s n) (set_local n 0)

abbrev pub ends : Setting → ℕ → Doing (Unit {0})
ends s n = either (row_of s n).is_placed (object_ends n) (pure tt)

-- the function that runs has locals with cells
abbrev pub IsReadyAt : At → Type 0
IsReadyAt at = IsReady (current_view (types_of at.program.now) at.current)

abbrev pub IsPlacedAt : At → ℕ → Type 0
IsPlacedAt at n = (bound : ℕ) → (row_of (setting_of bound at) n).is_placed ≡ true
