-- What follows from tests that hold, and from tests that do not.
use Rattle.std.proofs.Common.{Bool as Test, true, false, refl}
use Rattle.std.specs.Prelude.{◌&&◌, not, IsTrue, IsFalse}

pub not_both : (a : Test) → IsTrue a → IsFalse a → ⊥
not_both a t f = absurd cc

pub and_second : (a b : Test) → IsTrue (a && b) → IsTrue b
and_second true b h = h
and_second false b h = absurd cc

pub not_first : (a b : Test) → IsTrue (not a && b) → IsFalse a
not_first true b h = absurd cc
not_first false b h = refl
