-- How large the results of arithmetic and conversions are.
use Rattle.std.proofs.Common.{◌≡◌, ℕ, ◌^◌, ◌<◌, ◌≤◌, ℤ, pos, negsuc, ◌+ℤ◌, ◌-ℤ◌, ◌*ℤ◌, Bool, true, false, arith, refl}
use Rattle.std.specs.Prelude.{IfOk, Result, unsigned_abs, not, ◌&&◌, ◌==◌, nat_le, int_div, int_rem, if◌then◌else◌}
use Rattle.std.specs.Int.{from_bool, is_negative, int_div_euclid}
use Rattle.std.specs.Int.Bits.{and_lt}
use Rattle.std.proofs.lemmas.Nat.{or_lt, xor_lt}
use Rattle.std.proofs.lemmas.Bool.Decides.{nat_tests}
use Rattle.std.specs.Ordering.{int_eq}
use Rattle.srmt_base.specs.declared.op.Op.{Op}
use Rattle.srmt_base.specs.declared.op.Op.TheVariants.{Add, Sub, Mul, Div, Rem, Shl, Shr, And, Or, Xor, Lt, Gt, Le, Ge, Eq, Ne}
use Rattle.srmt_base.specs.declared.trap.Trap.{Trap}
use Rattle.srmt_base.specs.declared.ty.Ty.{Ty}
use Rattle.srmt_base.specs.Types.{is_signed, can_hold, kept, value_at, width_of}
use Rattle.srmt_base.specs.Arith.{arith_of, reduced, divided, remaining, shifted_left, shifted_right, bits_at, compares}
use Rattle.srmt_base.specs.Convert.{converted, convert_of}
use Rattle.srmt_base.specs.Objects.{pointer_to, object_part, offset_part}
use Rattle.srmt_base.specs.Pointer.{moved, amount_of, pointer_sum_of, pointer_difference_of, pointer_comparison_of, is_equality, is_offset}

-- a result, where there is one, is below a bound
abbrev pub IsBelow : ℕ → Result ℕ Trap → Type 0
IsBelow bound result = IfOk result (λ value. value < bound)

pub kept-lt : (z : ℤ) → kept z < 2 ^ 32
kept-lt (pos n) = omega arith
kept-lt (negsuc n) = omega arith

from_bool-lt : (b : Bool) → from_bool b < 2
from_bool-lt true = omega arith
from_bool-lt false = omega arith

-- of two results, the one that a test chooses
if-lt : (bound : ℕ) (b : Bool) (r s : Result ℕ Trap) → (b ≡ true → IsBelow bound r) → IsBelow bound s → IsBelow bound (if b then r else s)
if-lt bound true r s p q = p refl
if-lt bound false r s p q = q

reduced-lt : (ty : Ty) (z : ℤ) → IsBelow (2 ^ 32) (reduced ty z)
reduced-lt ty z = if-lt _ (is_signed ty && not (can_hold ty z)) _ _ (λ _. tt) (kept-lt z)

divided-lt : (ty : Ty) (x y : ℤ) → IsBelow (2 ^ 32) (divided ty x y)
divided-lt ty x y = if-lt _ (int_eq y (pos 0)) _ _ (λ _. tt) (reduced-lt ty (int_div x y))

remaining-lt : (ty : Ty) (x y : ℤ) → IsBelow (2 ^ 32) (remaining ty x y)
remaining-lt ty x y = if-lt _ (int_eq y (pos 0)) _ _ (λ _. tt) (if-lt _ (can_hold ty (int_div x y)) _ _ (λ _. (kept-lt (int_rem x y))) tt)

shifted_left-lt : (ty : Ty) (x : ℤ) (count : ℕ) → IsBelow (2 ^ 32) (shifted_left ty x count)
shifted_left-lt ty x count =
    if-lt _ (nat_le (width_of ty) count) _ _ (λ _. tt) (if-lt _ (is_negative x) _ _ (λ _. tt) (reduced-lt ty (x *ℤ pos (2 ^ count))))

shifted_right-lt : (ty : Ty) (x : ℤ) (count : ℕ) → IsBelow (2 ^ 32) (shifted_right ty x count)
shifted_right-lt ty x count = if-lt _ (nat_le (width_of ty) count) _ _ (λ _. tt) (kept-lt (int_div_euclid x (pos (2 ^ count))))

bits_at-lt : (ty : Ty) (n : ℕ) → bits_at ty n < 2 ^ 32
bits_at-lt ty n = omega arith

compares-lt : (op : Op) (x y : ℤ) → from_bool (compares op x y) < 2 ^ 32
compares-lt op x y = omega (arith, from_bool-lt (compares op x y))

-- what arithmetic gives is kept in 32 bits
pub arith_of-lt : (op : Op) (ty : Ty) (a b : ℕ) → IsBelow (2 ^ 32) (arith_of op ty a b)
arith_of-lt Add ty a b = reduced-lt ty (value_at ty a +ℤ value_at ty b)
arith_of-lt Sub ty a b = reduced-lt ty (value_at ty a -ℤ value_at ty b)
arith_of-lt Mul ty a b = reduced-lt ty (value_at ty a *ℤ value_at ty b)
arith_of-lt Div ty a b = divided-lt ty (value_at ty a) (value_at ty b)
arith_of-lt Rem ty a b = remaining-lt ty (value_at ty a) (value_at ty b)
arith_of-lt Shl ty a b = shifted_left-lt ty (value_at ty a) (bits_at ty b)
arith_of-lt Shr ty a b = shifted_right-lt ty (value_at ty a) (bits_at ty b)
arith_of-lt And ty a b = and_lt 32 (bits_at ty a) (bits_at ty b) (bits_at-lt ty a) (bits_at-lt ty b)
arith_of-lt Or ty a b = or_lt 32 (bits_at ty a) (bits_at ty b) (bits_at-lt ty a) (bits_at-lt ty b)
arith_of-lt Xor ty a b = xor_lt 32 (bits_at ty a) (bits_at ty b) (bits_at-lt ty a) (bits_at-lt ty b)
arith_of-lt Lt ty a b = compares-lt Lt (value_at ty a) (value_at ty b)
arith_of-lt Gt ty a b = compares-lt Gt (value_at ty a) (value_at ty b)
arith_of-lt Le ty a b = compares-lt Le (value_at ty a) (value_at ty b)
arith_of-lt Ge ty a b = compares-lt Ge (value_at ty a) (value_at ty b)
arith_of-lt Eq ty a b = compares-lt Eq (value_at ty a) (value_at ty b)
arith_of-lt Ne ty a b = compares-lt Ne (value_at ty a) (value_at ty b)

-- what a conversion gives is kept in 32 bits
pub convert_of-lt : (from to : Ty) (a : ℕ) → convert_of from to a < 2 ^ 32
convert_of-lt from to a = kept-lt (converted to (value_at from a))

-- the pointer to another cell of an object
pointer_to-lt : (p : ℕ) (z : ℤ) → p < 2 ^ 44 → is_offset z ≡ true → pointer_to (object_part p) (unsigned_abs z) < 2 ^ 44
pointer_to-lt p (pos n) h within = let k : n ≤ 65535 = grind (arith, nat_tests) in omega arith
pointer_to-lt p (negsuc n) h within = absurd cc

-- a pointer stays below 2^44 wherever it moves
pub moved-lt : (p : ℕ) (amount : ℤ) → p < 2 ^ 44 → IsBelow (2 ^ 44) (moved p amount)
moved-lt p amount h =
    if-lt _ (object_part p == 0) _ _ (λ _. (if-lt _ (int_eq amount (pos 0)) _ _ (λ _. h) tt))
    (if-lt _ (is_offset (pos (offset_part p) +ℤ amount)) _ _ (λ within. pointer_to-lt p (pos (offset_part p) +ℤ amount) h within) tt)

pub pointer_sum_of-lt : (p : ℕ) (ty : Ty) (index : ℕ) (negated : Bool) (scale : ℕ) → p < 2 ^ 44 → IsBelow (2 ^ 44) (pointer_sum_of p ty index negated scale)
pointer_sum_of-lt p ty index negated scale h = moved-lt p (amount_of ty index negated scale) h

pub pointer_difference_of-lt : (p q scale : ℕ) → IsBelow (2 ^ 32) (pointer_difference_of p q scale)
pointer_difference_of-lt p q scale =
    if-lt _ (object_part p == object_part q) _ _ (λ _. (kept-lt (int_div (pos (offset_part p) -ℤ pos (offset_part q)) (pos scale)))) tt

pub pointer_comparison_of-lt : (op : Op) (p q : ℕ) → IsBelow 2 (pointer_comparison_of op p q)
pointer_comparison_of-lt op p q =
    if-lt _ (is_equality op) _ _ (λ _. (from_bool-lt (compares op (pos p) (pos q))))
    (if-lt _ (object_part p == object_part q) _ _ (λ _. (from_bool-lt (compares op (pos (offset_part p)) (pos (offset_part q))))) tt)
