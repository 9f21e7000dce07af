-- The test for one type.
use Rattle.std.proofs.Common.{rules, ◌≡◌, ℕ, nat_eq, Bool as Test, true, false, ◌&&◌, true≢false, Option, Some, None, refl, sym, ap}
use Rattle.std.proofs.lemmas.Bool.{eqb-true}
use Rattle.srmt_base.specs.declared.ty.Ty.{Ty}
use Rattle.srmt_base.specs.Types.{ty_code}
use Rattle.c_types.specs.declared.qualifiers.Qualifiers.{Qualifiers}
use Rattle.c_types.specs.Types.{CType, void, integer, pointer, array, returning, taking, same_type, same_qualifiers, same_test, same_length}
use Rattle.c_types.proofs.Rows.{both, both_hold}

itself : (b : Test) → same_test b b ≡ true
itself true = refl
itself false = refl

one-test : (a b : Test) → same_test a b ≡ true → a ≡ b
one-test true true e = refl
one-test true false e = absurd (true≢false (sym e))
one-test false true e = absurd (true≢false (sym e))
one-test false false e = refl

qualifiers-itself : (q : Qualifiers) → same_qualifiers q q ≡ true
qualifiers-itself q = both_hold (itself q.is_const) (itself q.is_volatile)

one-qualifiers : (q r : Qualifiers) → same_qualifiers q r ≡ true → q ≡ r
one-qualifiers q r e =
    let h = both (same_test q.is_const r.is_const) (same_test q.is_volatile r.is_volatile) e in
    let const = one-test _ _ h.0 in
    let volatile = one-test _ _ h.1 in
    λ i. record { is_const = const i; is_volatile = volatile i }

same_number : (n : ℕ) → nat_eq n n ≡ true
same_number n = search rules

length-itself : (n : Option ℕ) → same_length n n ≡ true
length-itself None = refl
length-itself (Some n) = same_number n

one-length : (n m : Option ℕ) → same_length n m ≡ true → n ≡ m
one-length None None e = refl
one-length None (Some m) e = absurd (true≢false (sym e))
one-length (Some n) None e = absurd (true≢false (sym e))
one-length (Some n) (Some m) e = ap Some (eqb-true n m e)

pub one-ty : (a b : Ty) → nat_eq (ty_code a) (ty_code b) ≡ true → a ≡ b
one-ty a b e = search rules

pub type-itself : (t : CType) → same_type t t ≡ true
unfolding same_type
type-itself void = refl
type-itself (integer ty) = same_number (ty_code ty)
type-itself (pointer q t) = both_hold (qualifiers-itself q) (type-itself t)
type-itself (array q t n) = both_hold (both_hold (qualifiers-itself q) (type-itself t)) (length-itself n)
type-itself (returning q t) = both_hold (qualifiers-itself q) (type-itself t)
type-itself (taking p t) = both_hold (type-itself p) (type-itself t)

-- the test holds of one and the same type alone
pub one-type : (t u : CType) → same_type t u ≡ true → t ≡ u
unfolding same_type
one-type void void e = refl
one-type (integer a) (integer b) e = ap integer (one-ty a b e)
one-type (pointer q a) (pointer r b) e =
    let h = both (same_qualifiers q r) (same_type a b) e in
    let first = one-qualifiers q r h.0 in
    let rest = one-type a b h.1 in
    λ i. pointer (first i) (rest i)
one-type (array q a n) (array r b m) e =
    let h = both (same_qualifiers q r && same_type a b) (same_length n m) e in
    let k = both (same_qualifiers q r) (same_type a b) h.0 in
    let first = one-qualifiers q r k.0 in
    let rest = one-type a b k.1 in
    let long = one-length n m h.1 in
    λ i. array (first i) (rest i) (long i)
one-type (returning q a) (returning r b) e =
    let h = both (same_qualifiers q r) (same_type a b) e in
    let first = one-qualifiers q r h.0 in
    let rest = one-type a b h.1 in
    λ i. returning (first i) (rest i)
one-type (taking p a) (taking r b) e =
    let h = both (same_type p r) (same_type a b) e in
    let first = one-type p r h.0 in
    let rest = one-type a b h.1 in
    λ i. taking (first i) (rest i)
one-type t u e = absurd (true≢false (sym e))
