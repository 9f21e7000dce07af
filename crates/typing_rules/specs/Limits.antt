-- The limits of this project.
use Rattle.std.specs.Prelude.{ℕ}

abbrev pub most_parameters : ℕ
most_parameters = 16

-- cells of an object, and the greatest length of an array
abbrev pub most_cells : ℕ
most_cells = 65535

abbrev pub most_static_cells : ℕ
most_static_cells = 1048576

abbrev pub most_functions : ℕ
most_functions = 4096

abbrev pub most_types : ℕ
most_types = 65535
