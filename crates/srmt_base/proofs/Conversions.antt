-- Conversions, read back.
use Rattle.std.proofs.Common.{◌≡◌, ◌≢◌, ◌∙◌, ℕ, ◌+◌, ◌-◌, ◌/◌, ◌^◌, ◌<◌, ℤ, pos, negsuc, ◌-ℤ◌, arith, refl, Bool as Test, true, false}
use Rattle.std.proofs.Math.Pow.{pow_pos}
use Rattle.std.specs.Prelude.{IsTrue, nat_lt, if◌then◌else◌}
use Rattle.std.proofs.lemmas.Int.{ints}
use Rattle.std.proofs.lemmas.Bool.Decides.{nat_tests}
use Rattle.srmt_base.specs.declared.ty.Ty.{Ty}
use Rattle.srmt_base.specs.declared.ty.Ty.TheVariants.{Bool, Char, SChar, UChar, Short, UShort, Int, UInt}
use Rattle.srmt_base.specs.Types.{value_at, kept_at, can_hold, width_of, is_signed, low_bits, value_of_bits, wrapped}
use Rattle.srmt_base.specs.Convert.{converted, convert_of}
use Rattle.srmt_base.specs.Laws.{ConvertsAsC, IsCongruent}

-- a value of a type is read back as it was kept
pub value_at-kept_at : (ty : Ty) (z : ℤ) → IsTrue (can_hold ty z) → value_at ty (kept_at ty z) ≡ z
value_at-kept_at Bool (pos n) h = grind (arith, ints, nat_tests)
value_at-kept_at Bool (negsuc n) h = grind (arith, ints, nat_tests)
value_at-kept_at Char (pos n) h = grind (arith, ints, nat_tests)
value_at-kept_at Char (negsuc n) h = grind (arith, ints, nat_tests)
value_at-kept_at SChar (pos n) h = grind (arith, ints, nat_tests)
value_at-kept_at SChar (negsuc n) h = grind (arith, ints, nat_tests)
value_at-kept_at UChar (pos n) h = grind (arith, ints, nat_tests)
value_at-kept_at UChar (negsuc n) h = grind (arith, ints, nat_tests)
value_at-kept_at Short (pos n) h = grind (arith, ints, nat_tests)
value_at-kept_at Short (negsuc n) h = grind (arith, ints, nat_tests)
value_at-kept_at UShort (pos n) h = grind (arith, ints, nat_tests)
value_at-kept_at UShort (negsuc n) h = grind (arith, ints, nat_tests)
value_at-kept_at Int (pos n) h = grind (arith, ints, nat_tests)
value_at-kept_at Int (negsuc n) h = grind (arith, ints, nat_tests)
value_at-kept_at UInt (pos n) h = grind (arith, ints, nat_tests)
value_at-kept_at UInt (negsuc n) h = grind (arith, ints, nat_tests)

-- what a conversion gives is a value of the type
pub can_hold-converted : (to : Ty) (z : ℤ) → IsTrue (can_hold to (converted to z))
can_hold-converted Bool z = grind (arith, ints, nat_tests)
can_hold-converted Char (pos n) = grind (arith, ints, nat_tests)
can_hold-converted Char (negsuc n) = grind (arith, ints, nat_tests)
can_hold-converted SChar (pos n) = grind (arith, ints, nat_tests)
can_hold-converted SChar (negsuc n) = grind (arith, ints, nat_tests)
can_hold-converted UChar (pos n) = grind (arith, ints, nat_tests)
can_hold-converted UChar (negsuc n) = grind (arith, ints, nat_tests)
can_hold-converted Short (pos n) = grind (arith, ints, nat_tests)
can_hold-converted Short (negsuc n) = grind (arith, ints, nat_tests)
can_hold-converted UShort (pos n) = grind (arith, ints, nat_tests)
can_hold-converted UShort (negsuc n) = grind (arith, ints, nat_tests)
can_hold-converted Int (pos n) = grind (arith, ints, nat_tests)
can_hold-converted Int (negsuc n) = grind (arith, ints, nat_tests)
can_hold-converted UInt (pos n) = grind (arith, ints, nat_tests)
can_hold-converted UInt (negsuc n) = grind (arith, ints, nat_tests)

-- a value that the type can represent stays
pub converted-held : (to : Ty) (z : ℤ) → IsTrue (can_hold to z) → converted to z ≡ z
converted-held Bool (pos n) h = grind (arith, ints, nat_tests)
converted-held Bool (negsuc n) h = grind (arith, ints, nat_tests)
converted-held Char (pos n) h = grind (arith, ints, nat_tests)
converted-held Char (negsuc n) h = grind (arith, ints, nat_tests)
converted-held SChar (pos n) h = grind (arith, ints, nat_tests)
converted-held SChar (negsuc n) h = grind (arith, ints, nat_tests)
converted-held UChar (pos n) h = grind (arith, ints, nat_tests)
converted-held UChar (negsuc n) h = grind (arith, ints, nat_tests)
converted-held Short (pos n) h = grind (arith, ints, nat_tests)
converted-held Short (negsuc n) h = grind (arith, ints, nat_tests)
converted-held UShort (pos n) h = grind (arith, ints, nat_tests)
converted-held UShort (negsuc n) h = grind (arith, ints, nat_tests)
converted-held Int (pos n) h = grind (arith, ints, nat_tests)
converted-held Int (negsuc n) h = grind (arith, ints, nat_tests)
converted-held UInt (pos n) h = grind (arith, ints, nat_tests)
converted-held UInt (negsuc n) h = grind (arith, ints, nat_tests)

-- what is left of a number in w bits is congruent to it
low_bits-congruent : (w : ℕ) (z : ℤ) → IsCongruent w (pos (low_bits w z)) z
low_bits-congruent w (pos n) =
    let h : 0 < 2 ^ w = pow_pos w in
    (n / 2 ^ w, (0, omega (arith, ints)))
low_bits-congruent w (negsuc n) =
    let h : 0 < 2 ^ w = pow_pos w in
    (0, (n / 2 ^ w + 1, omega (arith, ints)))

-- and so is what these bits stand for
value_of_bits-congruent : (s : Test) (w bits : ℕ) → IsCongruent w (value_of_bits s w bits) (pos bits)
value_of_bits-congruent true w bits =
    elim (nat_lt bits (2 ^ (w - 1))) as (λ b. IsCongruent w (if b then pos bits else pos bits -ℤ pos (2 ^ w)) (pos bits))
    [ true ↦ (0, (0, omega (arith, ints))) | false ↦ (1, (0, omega (arith, ints))) ]
value_of_bits-congruent false w bits = (0, (0, omega (arith, ints)))

congruent-trans : (w : ℕ) (x y z : ℤ) → IsCongruent w x y → IsCongruent w y z → IsCongruent w x z
congruent-trans w x y z (j, (k, e)) (l, (m, f)) = (j + l, (k + m, omega (arith, ints)))

wrapped-congruent : (ty : Ty) (z : ℤ) → IsCongruent (width_of ty) (wrapped ty z) z
wrapped-congruent ty z =
    congruent-trans (width_of ty) (wrapped ty z) (pos (low_bits (width_of ty) z)) z
    (value_of_bits-congruent (is_signed ty) (width_of ty) (low_bits (width_of ty) z))
    (low_bits-congruent (width_of ty) z)

converted-congruent : (to : Ty) (z : ℤ) → to ≢ Bool → IsCongruent (width_of to) (converted to z) z
converted-congruent Bool z other = absurd (other refl)
converted-congruent Char z other = wrapped-congruent Char z
converted-congruent SChar z other = wrapped-congruent SChar z
converted-congruent UChar z other = wrapped-congruent UChar z
converted-congruent Short z other = wrapped-congruent Short z
converted-congruent UShort z other = wrapped-congruent UShort z
converted-congruent Int z other = wrapped-congruent Int z
converted-congruent UInt z other = wrapped-congruent UInt z

pub converts : (from to : Ty) (a : ℕ) → ConvertsAsC from to a
converts from to a =
    let z = value_at from a in
    let back : value_at to (convert_of from to a) ≡ converted to z = value_at-kept_at to (converted to z) (can_hold-converted to z) in
    record {
      held = rw back (can_hold-converted to z);
      same = λ h. back ∙ converted-held to z h;
      congruent = λ other. rw back (converted-congruent to z other);
    }
