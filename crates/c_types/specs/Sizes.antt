-- How large an array is.
use Rattle.std.specs.Prelude.{ℕ, ◌*◌, Option, Some, None}

-- the cells of an array of elements of so many cells; 0 without a length
abbrev pub cells_times : ℕ → Option ℕ → ℕ
cells_times cells None = 0
cells_times cells (Some n) = n * cells

abbrev pub bytes_times : ℕ → Option ℕ → ℕ
bytes_times bytes None = 0
bytes_times bytes (Some n) = n * bytes
