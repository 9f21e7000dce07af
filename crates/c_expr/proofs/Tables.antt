-- Lookups in the tables of kinds.
use Rattle.std.proofs.Common.{◌≡◌, ℕ, Bool, true, false, ◌||◌, ◌==◌, [], ◌∷◌, Option, Some, is_some, refl, if◌then◌else◌}
use Rattle.c_expr.specs.Codes.{Table, meaning, kinds, one_of}

step : {A : Type 0} (b : Bool) (x : A) (rest : Option A) (others : Bool) → others ≡ is_some rest → (b || others) ≡ is_some (if b then Some x else rest)
step true x rest others e = refl
step false x rest others e = e

-- A kind is among those of a table exactly where the table says something of it.
pub one_of_kinds : {A : Type 0} (table : Table A) (c : ℕ) → one_of (kinds table) c ≡ is_some (meaning table c)
one_of_kinds [] c = refl
one_of_kinds (e ∷ es) c = step (c == e.0) e.1 (meaning es c) (one_of (kinds es) c) (one_of_kinds es c)
