-- What is left of a source to read.
use Rattle.std.specs.Prelude.{ℕ, List}
use Rattle.first_form.specs.declared.rest.Rest.{Rest}

-- bytes, and the line of the first of them
pub record Place : Type 0 where
  pub line : ℕ
  pub bytes : List ℕ

abbrev pub place_of : Rest → Place
place_of r = record { line = r.line; bytes = r.bytes.now }
