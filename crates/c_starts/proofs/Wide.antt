-- Arithmetic at a type of any width is that at the wide type, tested.
use Rattle.std.proofs.Common.{◌≡◌, ◌∙◌, ap, sym, refl, ℕ, ◌%◌, ℤ, pos, negsuc, ◌+ℤ◌, ◌-ℤ◌, ◌*ℤ◌, ◌<◌, ◌^◌, Bool as Test, true, false, arith}
use Rattle.std.specs.Prelude.{not, ◌&&◌, if◌then◌else◌, nat_le, int_div, int_rem, Result, Ok, Err}
use Rattle.std.specs.Int.{is_negative}
use Rattle.std.specs.Ordering.{int_eq}
use Rattle.std.proofs.Math.Nat.{div-le_self}
use Rattle.std.proofs.lemmas.Int.{ints}
use Rattle.std.proofs.lemmas.Bool.{both_ways}
use Rattle.std.proofs.lemmas.Bool.Decides.{nat_tests}
use Rattle.srmt_base.specs.declared.op.Op.TheVariants.{Add, Sub, Mul, Div, Rem, Shl}
use Rattle.srmt_base.specs.declared.trap.Trap.{Trap}
use Rattle.srmt_base.specs.declared.trap.Trap.TheVariants.{Overflow, DivideByZero, ShiftRange}
use Rattle.srmt_base.specs.declared.ty.Ty.{Ty}
use Rattle.srmt_base.specs.declared.ty.Ty.TheVariants.{Bool, Char, SChar, UChar, Short, UShort, Int, UInt}
use Rattle.srmt_base.specs.Types.{value_at, kept_at, can_hold, is_signed, width_of}
use Rattle.srmt_base.specs.Arith.{arith_of, reduced, divided, remaining, shifted_left, bits_at}
use Rattle.srmt_base.proofs.Conversions.{value_at-kept_at}
use Rattle.c_starts.specs.Wide.{wide_of, fitted, remained}

-- the values of a type are kept as those of its wide type
values : (ty : Ty) → value_at (wide_of ty) ≡ value_at ty
values Bool = refl
values Char = refl
values SChar = refl
values UChar = refl
values Short = refl
values UShort = refl
values Int = refl
values UInt = refl

-- what the wide type cannot represent, neither can a type with a sign
outside : (ty : Ty) (z : ℤ) → is_signed ty ≡ true → can_hold Int z ≡ false → can_hold ty z ≡ false
outside Bool z signed h = absurd cc
outside Char (pos n) signed h = grind (arith, ints, nat_tests)
outside Char (negsuc n) signed h = grind (arith, ints, nat_tests)
outside SChar (pos n) signed h = grind (arith, ints, nat_tests)
outside SChar (negsuc n) signed h = grind (arith, ints, nat_tests)
outside UChar z signed h = absurd cc
outside Short (pos n) signed h = grind (arith, ints, nat_tests)
outside Short (negsuc n) signed h = grind (arith, ints, nat_tests)
outside UShort z signed h = absurd cc
outside Int z signed h = h
outside UInt z signed h = absurd cc

signed-fit : (ty : Ty) (z : ℤ) (b : Test) → is_signed ty ≡ true → wide_of ty ≡ Int → can_hold Int z ≡ b → fitted ty (reduced Int z) ≡ reduced ty z
signed-fit ty z true signed wide held =
    ap (λ t. fitted ty (if not t then Err Overflow else Ok (kept_at Int z))) held
    ∙ ap (λ v. if is_signed ty && not (can_hold ty v) then Err Overflow else Ok (kept_at Int z))
    ((λ i. sym (values ty) i (kept_at Int z)) ∙ ap (λ w. value_at w (kept_at Int z)) wide ∙ value_at-kept_at Int z held)
signed-fit ty z false signed wide held =
    ap (λ t. fitted ty (if not t then Err Overflow else Ok (kept_at Int z))) held
    ∙ sym (ap (λ s. if s && not (can_hold ty z) then Err Overflow else Ok (kept_at ty z)) signed
    ∙ ap (λ t. if not t then Err Overflow else Ok (kept_at ty z)) (outside ty z signed held))

reduced-fit : (ty : Ty) (z : ℤ) → fitted ty (reduced (wide_of ty) z) ≡ reduced ty z
reduced-fit Bool z = refl
reduced-fit Char z = signed-fit Char z (can_hold Int z) refl refl refl
reduced-fit SChar z = signed-fit SChar z (can_hold Int z) refl refl refl
reduced-fit UChar z = refl
reduced-fit Short z = signed-fit Short z (can_hold Int z) refl refl refl
reduced-fit UShort z = refl
reduced-fit Int z = signed-fit Int z (can_hold Int z) refl refl refl
reduced-fit UInt z = refl

-- past a test that traps
past : (ty : Ty) (b : Test) (t : Trap) (r s : Result ℕ Trap) → fitted ty r ≡ s → fitted ty (if b then Err t else r) ≡ (if b then Err t else s)
past ty true t r s e = refl
past ty false t r s e = e

pub add-fit : (ty : Ty) (a b : ℕ) → fitted ty (arith_of Add (wide_of ty) a b) ≡ arith_of Add ty a b
add-fit ty a b = ap (λ (v : ℕ → ℤ). fitted ty (reduced (wide_of ty) (v a +ℤ v b))) (values ty) ∙ reduced-fit ty (value_at ty a +ℤ value_at ty b)

pub sub-fit : (ty : Ty) (a b : ℕ) → fitted ty (arith_of Sub (wide_of ty) a b) ≡ arith_of Sub ty a b
sub-fit ty a b = ap (λ (v : ℕ → ℤ). fitted ty (reduced (wide_of ty) (v a -ℤ v b))) (values ty) ∙ reduced-fit ty (value_at ty a -ℤ value_at ty b)

pub mul-fit : (ty : Ty) (a b : ℕ) → fitted ty (arith_of Mul (wide_of ty) a b) ≡ arith_of Mul ty a b
mul-fit ty a b = ap (λ (v : ℕ → ℤ). fitted ty (reduced (wide_of ty) (v a *ℤ v b))) (values ty) ∙ reduced-fit ty (value_at ty a *ℤ value_at ty b)

pub div-fit : (ty : Ty) (a b : ℕ) → fitted ty (arith_of Div (wide_of ty) a b) ≡ arith_of Div ty a b
div-fit ty a b =
    ap (λ (v : ℕ → ℤ). fitted ty (divided (wide_of ty) (v a) (v b))) (values ty)
    ∙ past ty (int_eq (value_at ty b) (pos 0)) DivideByZero _ _ (reduced-fit ty (int_div (value_at ty a) (value_at ty b)))

-- a count below the width
left-fit : (ty : Ty) (x : ℤ) (count : ℕ) → nat_le (width_of ty) count ≡ false → nat_le (width_of (wide_of ty)) count ≡ false
    → fitted ty (shifted_left (wide_of ty) x count) ≡ shifted_left ty x count
left-fit ty x count narrow wide =
    ap (λ b. fitted ty (if b then Err ShiftRange else if is_negative x then Err Overflow else reduced (wide_of ty) (x *ℤ pos (2 ^ count)))) wide
    ∙ past ty (is_negative x) Overflow _ _ (reduced-fit ty (x *ℤ pos (2 ^ count)))
    ∙ sym (ap (λ b. if b then Err ShiftRange else if is_negative x then Err Overflow else reduced ty (x *ℤ pos (2 ^ count))) narrow)

below-wide : (ty : Ty) (count : ℕ) → count < width_of ty → nat_le (width_of (wide_of ty)) count ≡ false
below-wide Bool count h = grind (arith, nat_tests)
below-wide Char count h = grind (arith, nat_tests)
below-wide SChar count h = grind (arith, nat_tests)
below-wide UChar count h = grind (arith, nat_tests)
below-wide Short count h = grind (arith, nat_tests)
below-wide UShort count h = grind (arith, nat_tests)
below-wide Int count h = grind (arith, nat_tests)
below-wide UInt count h = grind (arith, nat_tests)

pub shl-fit : (ty : Ty) (a b : ℕ) → bits_at ty b < width_of ty → fitted ty (arith_of Shl (wide_of ty) a b) ≡ arith_of Shl ty a b
shl-fit ty a b h =
    ap (λ (v : ℕ → ℤ). fitted ty (shifted_left (wide_of ty) (v a) (bits_at ty b))) (values ty)
    ∙ left-fit ty (value_at ty a) (bits_at ty b) (grind (arith, nat_tests)) (below-wide ty (bits_at ty b) h)

-- the quotient of two numbers without a sign is in range
quotient-held : (a b : ℕ) → can_hold UInt (int_div (value_at UInt a) (value_at UInt b)) ≡ true
quotient-held a b = let h = div-le_self (a % 2 ^ 32) (b % 2 ^ 32) in grind (arith, ints, nat_tests)

-- what the wide type cannot represent traps as a quotient
record Parted (ty : Ty) (q : ℤ) : Type 0 where
  traps : reduced (wide_of ty) q ≡ Err Overflow
  nor : can_hold ty q ≡ false

signed-parts : (ty : Ty) (q : ℤ) → is_signed ty ≡ true → wide_of ty ≡ Int → can_hold Int q ≡ false → Parted ty q
signed-parts ty q signed wide h = record {
  traps = ap (λ w. reduced w q) wide ∙ ap (λ t. if not t then Err Overflow else Ok (kept_at Int q)) h;
  nor = outside ty q signed h;
}

remained-at : (ty : Ty) (q : ℤ) (k : ℕ) (b : Test) → can_hold (wide_of ty) q ≡ b → (b ≡ false → Parted ty q)
    → remained ty (reduced (wide_of ty) q) (if can_hold (wide_of ty) q then Ok k else Err Overflow) ≡ (if can_hold ty q then Ok k else Err Overflow)
remained-at ty q k true held parted =
    ap (λ b. remained ty (if is_signed (wide_of ty) && not b then Err Overflow else Ok (kept_at ty q)) (if b then Ok k else Err Overflow)) held
    ∙ ap (λ b. remained ty (if b then Err Overflow else Ok (kept_at ty q)) (Ok k)) (never (is_signed (wide_of ty)))
    ∙ ap (λ v. if can_hold ty v then Ok k else Err Overflow)
    ((λ i. sym (values ty) i (kept_at ty q)) ∙ value_at-kept_at (wide_of ty) q held)
  where
    never : (s : Test) → (s && not true) ≡ false
    never true = refl
    never false = refl
remained-at ty q k false held parted =
    ap (λ r. remained ty r (if can_hold (wide_of ty) q then Ok k else Err Overflow)) (parted refl).traps
    ∙ sym (ap (λ b. if b then Ok k else Err Overflow) (parted refl).nor)

quotient-parts : (ty : Ty) (a b : ℕ) → can_hold (wide_of ty) (int_div (value_at (wide_of ty) a) (value_at (wide_of ty) b)) ≡ false
    → Parted ty (int_div (value_at ty a) (value_at ty b))
quotient-parts Bool a b h = absurd (both_ways _ h (quotient-held a b))
quotient-parts Char a b h = signed-parts Char (int_div (value_at Char a) (value_at Char b)) refl refl h
quotient-parts SChar a b h = signed-parts SChar (int_div (value_at SChar a) (value_at SChar b)) refl refl h
quotient-parts UChar a b h = absurd (both_ways _ h (quotient-held a b))
quotient-parts Short a b h = signed-parts Short (int_div (value_at Short a) (value_at Short b)) refl refl h
quotient-parts UShort a b h = absurd (both_ways _ h (quotient-held a b))
quotient-parts Int a b h = signed-parts Int (int_div (value_at Int a) (value_at Int b)) refl refl h
quotient-parts UInt a b h = absurd (both_ways _ h (quotient-held a b))

remained-past : (ty : Ty) (b : Test) (t : Trap) (q r s : Result ℕ Trap) → remained ty q r ≡ s
    → remained ty (if b then Err t else q) (if b then Err t else r) ≡ (if b then Err t else s)
remained-past ty true t q r s e = refl
remained-past ty false t q r s e = e

pub rem-fit : (ty : Ty) (a b : ℕ) → remained ty (arith_of Div (wide_of ty) a b) (arith_of Rem (wide_of ty) a b) ≡ arith_of Rem ty a b
rem-fit ty a b =
    let q = int_div (value_at ty a) (value_at ty b) in
    let k = kept_at ty (int_rem (value_at ty a) (value_at ty b)) in
    let parted : can_hold (wide_of ty) q ≡ false → Parted ty q =
    λ h. quotient-parts ty a b (ap (λ (v : ℕ → ℤ). can_hold (wide_of ty) (int_div (v a) (v b))) (values ty) ∙ h) in
    ap (λ (v : ℕ → ℤ). remained ty (divided (wide_of ty) (v a) (v b)) (remaining (wide_of ty) (v a) (v b))) (values ty)
    ∙ remained-past ty (int_eq (value_at ty b) (pos 0)) DivideByZero _ _ _ (remained-at ty q k (can_hold (wide_of ty) q) refl parted)
