-- Lemmas on whole numbers that the proofs of arithmetic share.
use Rattle.std.proofs.Common.{◌≡◌, ◌∙◌, ap, refl, ℕ, zero, suc, ◌*◌, ◌%◌, ◌^◌, ◌<◌, ◌≤◌, true, false, ℤ, pos, negsuc, ◌*ℤ◌, ◌≤ℤ◌, ◌<ℤ◌, FitsSigned, w64, arith, rules, lit≤, to_z, of_z}
use Rattle.std.specs.Prelude.{int_div, unsigned_abs, neg_ℤ}
use Rattle.std.specs.Int.{is_negative}
use Rattle.std.specs.Ordering.{int_eq}
use Rattle.srmt_base.specs.declared.ty.Ty.{Ty}
use Rattle.srmt_base.specs.declared.ty.Ty.TheVariants.{Char, SChar, UChar, Short, UShort, Int, UInt, Bool as OfBool}
use Rattle.srmt_base.specs.Types.{width_of, is_signed, value_at, twos_complement}
use Rattle.std.proofs.lemmas.Bool.Decides.{nat_tests}
use Rattle.std.proofs.Math.Nat.{div-le_self, mul-le-mul, mod-eq_of_lt}
use Rattle.std.proofs.Math.Pow.{pow_mono, pow-lt}
use Rattle.std.proofs.lemmas.Int.{ints, fits_signed_from_abs, to_z_pos}

-- a divisor whose bits are not 0 is not 0
pub int_eq-zero : (y : ℤ) → (of_z w64 y ≡ 0 → ⊥) → int_eq y (pos 0) ≡ false
int_eq-zero (pos zero) h = absurd (h refl)
int_eq-zero (pos (suc n)) h = search rules
int_eq-zero (negsuc n) h = refl

unsigned_abs-neg : (q : ℕ) → unsigned_abs (neg_ℤ (pos q)) ≡ q
unsigned_abs-neg zero = refl
unsigned_abs-neg (suc q) = refl

-- a quotient is no larger than the dividend
pub unsigned_abs-int_div : (x y : ℤ) → unsigned_abs (int_div x y) ≤ unsigned_abs x
unsigned_abs-int_div (pos a) (pos b) = div-le_self a b
unsigned_abs-int_div (pos a) (negsuc b) = rw unsigned_abs-neg (div-le_self a (suc b))
unsigned_abs-int_div (negsuc a) (pos b) = rw unsigned_abs-neg (div-le_self (suc a) b)
unsigned_abs-int_div (negsuc a) (negsuc b) = div-le_self (suc a) (suc b)

-- the absolute value of a number from -2^31 on
unsigned_abs-fits : (x : ℤ) → FitsSigned w64 x → negsuc 2147483647 ≤ℤ x → unsigned_abs x < 2 ^ 63
unsigned_abs-fits (pos a) f low = f.sfits
unsigned_abs-fits (negsuc a) f low = grind (arith, ints)

-- the quotient of such a number fits
pub int_div_fits : (x y : ℤ) → FitsSigned w64 x → negsuc 2147483647 ≤ℤ x → FitsSigned w64 (int_div x y)
int_div_fits x y f low =
    let small : unsigned_abs x < 2 ^ 63 = unsigned_abs-fits x f low in
    fits_signed_from_abs w64 (int_div x y) (omega (arith, unsigned_abs-int_div x y))

-- 2 to a count below 32, in 64 bits
pub power_is : (count : ℕ) → count < 32 → to_z w64 (1 * 2 ^ count % 18446744073709551616) ≡ pos (2 ^ count)
power_is count below =
    let h : 2 ^ count < 2 ^ 32 = pow-lt below in
    let e : 1 * 2 ^ count % 18446744073709551616 ≡ 2 ^ count = (ap (λ n. n % 18446744073709551616) (omega arith)) ∙ mod-eq_of_lt (omega arith) in
    rw e (to_z_pos w64 (2 ^ count) (omega arith))

-- a number from 0 to 2^32 - 1 times such a power fits
pub product_fits : (x : ℤ) (count : ℕ) → is_negative x ≡ false → x <ℤ pos 4294967296 → count < 32 → FitsSigned w64 (x *ℤ pos (2 ^ count))
product_fits (pos a) count sign high below =
    let c : count ≤ 31 = omega arith in
    let h : 2 ^ count ≤ 2 ^ 31 = pow_mono c in
    let k : a ≤ 4294967295 = omega (arith, ints) in
    let m : a * 2 ^ count ≤ 4294967295 * 2 ^ 31 = mul-le-mul k h in
    record { sfits = omega arith }
product_fits (negsuc a) count sign high below = absurd (cc)

-- the width of each type
pub width_of-le : (ty : Ty) → width_of ty ≤ 32
width_of-le OfBool = lit≤ tt
width_of-le Char = lit≤ tt
width_of-le SChar = lit≤ tt
width_of-le UChar = lit≤ tt
width_of-le Short = lit≤ tt
width_of-le UShort = lit≤ tt
width_of-le Int = lit≤ tt
width_of-le UInt = lit≤ tt

-- two's complement of 32 bits
pub unsigned_abs-twos_complement : (bits : ℕ) → bits < 2 ^ 32 → unsigned_abs (twos_complement 32 bits) ≤ 2 ^ 31
unsigned_abs-twos_complement bits h = grind (arith, nat_tests, ints)

-- what is read at a signed type
pub unsigned_abs-value_at : (ty : Ty) (n : ℕ) → is_signed ty ≡ true → unsigned_abs (value_at ty n) ≤ 2 ^ 31
unsigned_abs-value_at OfBool n s = absurd cc
unsigned_abs-value_at Char n s = unsigned_abs-twos_complement (n % 2 ^ 32) (omega arith)
unsigned_abs-value_at SChar n s = unsigned_abs-twos_complement (n % 2 ^ 32) (omega arith)
unsigned_abs-value_at UChar n s = absurd cc
unsigned_abs-value_at Short n s = unsigned_abs-twos_complement (n % 2 ^ 32) (omega arith)
unsigned_abs-value_at UShort n s = absurd cc
unsigned_abs-value_at Int n s = unsigned_abs-twos_complement (n % 2 ^ 32) (omega arith)
unsigned_abs-value_at UInt n s = absurd cc
