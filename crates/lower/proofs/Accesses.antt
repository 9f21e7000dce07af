-- What reads a place and what writes it are instructions of the definition as they are of the code.
use Rattle.std.proofs.Common.{◌≡◌, ℕ, true, false, sym, ap}
use Rattle.mid_code.specs.declared.mid.Mid.{Mid}
use Rattle.lower.specs.Emitting.{emits}
use Rattle.lower.specs.Expressions.{Located, held, stored, load_of, store_of}
use Rattle.lower.specs.Emits.{emits_mid}

pub load-told : (l : Located) (line d : ℕ) (z : ℕ × Mid) → z ≡ load_of l line d → emits (load_of l line d).0 (load_of l line d).1 ≡ emits_mid z.0 z.1
load-told (held home) line d z is = ap (λ y. emits_mid y.0 y.1) (sym is)
load-told (stored true at a) line d z is = ap (λ y. emits_mid y.0 y.1) (sym is)
load-told (stored false at a) line d z is = ap (λ y. emits_mid y.0 y.1) (sym is)

pub store-told : (l : Located) (line r : ℕ) (z : ℕ × Mid) → z ≡ store_of l line r → emits (store_of l line r).0 (store_of l line r).1 ≡ emits_mid z.0 z.1
store-told (held home) line r z is = ap (λ y. emits_mid y.0 y.1) (sym is)
store-told (stored true at a) line r z is = ap (λ y. emits_mid y.0 y.1) (sym is)
store-told (stored false at a) line r z is = ap (λ y. emits_mid y.0 y.1) (sym is)
