-- Quotients and remainders.
use Rattle.std.proofs.Common.{◌≡◌, ◌∙◌, sym, ap, ℕ, suc, ℤ, pos, negsuc, arith, Bool, true, false, rules}
use Rattle.std.specs.Prelude.{IsTrue, not, ◌&&◌, int_div, int_rem, unsigned_abs, Result, Ok, Err, if◌then◌else◌}
use Rattle.std.specs.Ordering.{int_eq}
use Rattle.std.proofs.Math.Nat.{mod-le}
use Rattle.std.proofs.lemmas.Int.{ints, quot-rem}
use Rattle.std.proofs.lemmas.Bool.Decides.{nat_tests}
use Rattle.srmt_base.specs.declared.trap.Trap.{Trap}
use Rattle.srmt_base.specs.declared.trap.Trap.TheVariants.{Overflow, DivideByZero}
use Rattle.srmt_base.specs.declared.ty.Ty.{Ty}
use Rattle.srmt_base.specs.declared.ty.Ty.TheVariants.{Bool as OfBool, Char, SChar, UChar, Short, UShort, Int, UInt}
use Rattle.srmt_base.specs.Types.{value_at, kept_at, can_hold, is_signed, IsPromoted}
use Rattle.srmt_base.specs.Arith.{divided, remaining, reduced}
use Rattle.srmt_base.specs.Laws.{Recombines}
use Rattle.srmt_base.proofs.Conversions.{value_at-kept_at}

-- a remainder is as small as the dividend, with its sign
can_hold-int_rem : (ty : Ty) (x y : ℤ) → IsPromoted ty → IsTrue (can_hold ty x) → IsTrue (can_hold ty (int_rem x y))
can_hold-int_rem Int (pos a) y promoted h = grind (arith, ints, nat_tests, mod-le a (unsigned_abs y))
can_hold-int_rem Int (negsuc a) y promoted h = grind (arith, ints, nat_tests, mod-le (suc a) (unsigned_abs y))
can_hold-int_rem UInt (pos a) y promoted h = grind (arith, ints, nat_tests, mod-le a (unsigned_abs y))
can_hold-int_rem UInt (negsuc a) y promoted h = grind (arith, ints, nat_tests)
can_hold-int_rem OfBool x y promoted h = absurd promoted
can_hold-int_rem Char x y promoted h = absurd promoted
can_hold-int_rem SChar x y promoted h = absurd promoted
can_hold-int_rem UChar x y promoted h = absurd promoted
can_hold-int_rem Short x y promoted h = absurd promoted
can_hold-int_rem UShort x y promoted h = absurd promoted

-- what is read at a promoted type is a value of it
can_hold-value_at : (ty : Ty) (a : ℕ) → IsPromoted ty → IsTrue (can_hold ty (value_at ty a))
can_hold-value_at Int a promoted = grind (arith, ints, nat_tests)
can_hold-value_at UInt a promoted = grind (arith, ints, nat_tests)
can_hold-value_at OfBool a promoted = absurd promoted
can_hold-value_at Char a promoted = absurd promoted
can_hold-value_at SChar a promoted = absurd promoted
can_hold-value_at UChar a promoted = absurd promoted
can_hold-value_at Short a promoted = absurd promoted
can_hold-value_at UShort a promoted = absurd promoted

-- past a test that trapped
skip_err : (b : Bool) (t : Trap) (s : Result ℕ Trap) (v : ℕ) → (if b then Err t else s) ≡ Ok v → s ≡ Ok v
skip_err true t s v e = absurd cc
skip_err false t s v e = e

-- a result that only a test lets through
take_ok : (b : Bool) (t : Trap) (n v : ℕ) → (if b then Ok n else Err t) ≡ Ok v → IsTrue b × (n ≡ v)
take_ok true t n v e = (search rules, cc)
take_ok false t n v e = absurd cc

-- where a remainder is defined, the type can represent the quotient, and the remainder is kept
remaining-ok : (ty : Ty) (x y : ℤ) (r : ℕ) → remaining ty x y ≡ Ok r → IsTrue (can_hold ty (int_div x y)) × (kept_at ty (int_rem x y) ≡ r)
remaining-ok ty x y r e =
    take_ok (can_hold ty (int_div x y)) Overflow (kept_at ty (int_rem x y)) r
    (skip_err (int_eq y (pos 0)) DivideByZero (if can_hold ty (int_div x y) then Ok (kept_at ty (int_rem x y)) else Err Overflow) r e)

-- and then so is the quotient
divided-ok : (ty : Ty) (x y : ℤ) (q : ℕ) → divided ty x y ≡ Ok q → kept_at ty (int_div x y) ≡ q
divided-ok ty x y q e =
    let reduces = skip_err (int_eq y (pos 0)) DivideByZero (reduced ty (int_div x y)) q e in
    let keeps : Ok (kept_at ty (int_div x y)) ≡ Ok q =
    skip_err (is_signed ty && not (can_hold ty (int_div x y))) Overflow (Ok (kept_at ty (int_div x y))) q reduces in
    cc

pub recombines : (ty : Ty) (a b : ℕ) → IsPromoted ty → Recombines ty a b
recombines ty a b promoted q r divides remains =
    let x = value_at ty a in
    let y = value_at ty b in
    let rem = remaining-ok ty x y r remains in
    let q-is : value_at ty q ≡ int_div x y = ap (value_at ty) (sym (divided-ok ty x y q divides)) ∙ value_at-kept_at ty (int_div x y) rem.0 in
    let r-is : value_at ty r ≡ int_rem x y =
    ap (value_at ty) (sym rem.1)
    ∙ value_at-kept_at ty (int_rem x y) (can_hold-int_rem ty x y promoted (can_hold-value_at ty a promoted)) in
    rw (q-is, r-is) (quot-rem x y)
