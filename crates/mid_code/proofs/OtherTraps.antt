-- Arithmetic and accesses never trap by the budgets of turns and of live activations.
use Rattle.std.proofs.Common.{◌≡◌, ℕ, ◌+◌, ◌^◌, ℤ, pos, ◌+ℤ◌, ◌-ℤ◌, ◌*ℤ◌, length, Option, Some, None, Result, Ok, Err, Bool, true, false, refl}
use Rattle.std.specs.Prelude.{IfErr, not, ◌&&◌, ◌==◌, nat_le, nat_lt, int_div, if◌then◌else◌}
use Rattle.std.specs.Int.{is_negative}
use Rattle.std.specs.Ordering.{int_eq}
use Rattle.srmt_base.specs.declared.op.Op.{Op}
use Rattle.srmt_base.specs.declared.op.Op.TheVariants.{Add, Sub, Mul, Div, Rem, Shl, Shr, And, Or, Xor, Lt, Gt, Le, Ge, Eq, Ne}
use Rattle.srmt_base.specs.declared.trap.Trap.{Trap}
use Rattle.srmt_base.specs.declared.trap.Trap.TheVariants.{Turns, Depth, Store}
use Rattle.srmt_base.specs.declared.ty.Ty.{Ty}
use Rattle.srmt_base.specs.Trap.{is_budget}
use Rattle.srmt_base.specs.Types.{is_signed, can_hold, value_at, width_of}
use Rattle.srmt_base.specs.Arith.{arith_of, reduced, shifted_left, bits_at}
use Rattle.srmt_base.specs.Pointer.{amount_of, pointer_sum_of, pointer_difference_of, pointer_comparison_of, is_equality, is_offset}
use Rattle.srmt_base.specs.Objects.{Object, Objects, object_part, offset_part, live_at, access_in, access_of, if_passed, put_of, live_cells, written}
use Rattle.srmt_base.specs.declared.part.Part.{Part}
use Rattle.srmt_base.specs.Memory.{Memory, Count, objects_of, last_number, part_of, count_of, draw_of, changed, begun_if, read_of, write_of, begin_of}

-- a trap that is no budget's
abbrev pub IsOther : Trap → Type 0
IsOther trap = is_budget trap ≡ false

-- whether a trap is that of turns or of activations
abbrev pub is_counted : Trap → Bool
is_counted Turns = true
is_counted Depth = true
is_counted _ = false

pub uncounted : (trap : Trap) → IsOther trap → is_counted trap ≡ false
uncounted Turns h = absurd (cc)
uncounted Depth h = absurd (cc)
uncounted _ h = refl

if_other : {A : Type 0} (b : Bool) (r s : Result A Trap) → IfErr r IsOther → IfErr s IsOther → IfErr (if b then r else s) IsOther
if_other true r s p q = p
if_other false r s p q = q

reduced_other : (ty : Ty) (z : ℤ) → IfErr (reduced ty z) IsOther
reduced_other ty z = if_other (is_signed ty && not (can_hold ty z)) _ _ refl tt

left_other : (ty : Ty) (x : ℤ) (count : ℕ) → IfErr (shifted_left ty x count) IsOther
left_other ty x count = if_other (nat_le (width_of ty) count) _ _ refl (if_other (is_negative x) _ _ refl (reduced_other ty (x *ℤ pos (2 ^ count))))

pub arith_other : (op : Op) (ty : Ty) (a b : ℕ) → IfErr (arith_of op ty a b) IsOther
arith_other Add ty a b = reduced_other ty (value_at ty a +ℤ value_at ty b)
arith_other Sub ty a b = reduced_other ty (value_at ty a -ℤ value_at ty b)
arith_other Mul ty a b = reduced_other ty (value_at ty a *ℤ value_at ty b)
arith_other Div ty a b = if_other (int_eq (value_at ty b) (pos 0)) _ _ refl (reduced_other ty (int_div (value_at ty a) (value_at ty b)))
arith_other Rem ty a b = if_other (int_eq (value_at ty b) (pos 0)) _ _ refl (if_other (can_hold ty (int_div (value_at ty a) (value_at ty b))) _ _ tt refl)
arith_other Shl ty a b = left_other ty (value_at ty a) (bits_at ty b)
arith_other Shr ty a b = if_other (nat_le (width_of ty) (bits_at ty b)) _ _ refl tt
arith_other And ty a b = tt
arith_other Or ty a b = tt
arith_other Xor ty a b = tt
arith_other Lt ty a b = tt
arith_other Gt ty a b = tt
arith_other Le ty a b = tt
arith_other Ge ty a b = tt
arith_other Eq ty a b = tt
arith_other Ne ty a b = tt

pub sum_other : (p : ℕ) (ty : Ty) (index : ℕ) (negated : Bool) (scale : ℕ) → IfErr (pointer_sum_of p ty index negated scale) IsOther
sum_other p ty index negated scale =
    let amount = amount_of ty index negated scale in
    if_other (object_part p == 0) _ _ (if_other (int_eq amount (pos 0)) _ _ tt refl) (if_other (is_offset (pos (offset_part p) +ℤ amount)) _ _ tt refl)

pub difference_other : (p q scale : ℕ) → IfErr (pointer_difference_of p q scale) IsOther
difference_other p q scale = if_other (object_part p == object_part q) _ _ tt refl

pub comparison_other : (op : Op) (p q : ℕ) → IfErr (pointer_comparison_of op p q) IsOther
comparison_other op p q = if_other (is_equality op) _ _ tt (if_other (object_part p == object_part q) _ _ tt refl)

access_other : (writes : Bool) (s : Objects) (pointer : ℕ) → IfErr (access_of writes s pointer) IsOther
access_other writes s pointer = if_other (object_part pointer == 0) _ _ refl (found (live_at s (object_part pointer))) where
  found : (object : Option Object) → IfErr (access_in writes object (offset_part pointer)) IsOther
  found None = refl
  found (Some object) = if_other (nat_le (length object.cells) (offset_part pointer)) _ _ refl (if_other (writes && object.read_only) _ _ refl tt)

passed_other : {A : Type 0} (f : Object → A) (r : Result Object Trap) → IfErr r IsOther → IfErr (if_passed f r) IsOther
passed_other f (Ok object) h = tt
passed_other f (Err trap) h = h

changed_other : (part : Part) (memory : Memory) (r : Result Objects Trap) → IfErr r IsOther → IfErr (changed part memory r) IsOther
changed_other part memory (Ok objects) h = tt
changed_other part memory (Err trap) h = h

pub read_other : (memory : Memory) (pointer : ℕ) → IfErr (read_of memory pointer) IsOther
read_other memory pointer =
    let s = objects_of (part_of pointer) memory in
    passed_other _ (access_of false s pointer) (access_other false s pointer)

pub write_other : (memory : Memory) (pointer value : ℕ) → IfErr (write_of memory pointer value) IsOther
write_other memory pointer value =
    let s = objects_of (part_of pointer) memory in
    changed_other (part_of pointer) memory (put_of s pointer value) (passed_other (λ _. written s pointer value) (access_of true s pointer) (access_other true s pointer))

-- beginning an object traps by the budget of cells or of numbers alone
abbrev IsStore : Trap → Type 0
IsStore trap = trap ≡ Store

drawn_store : (used full : Bool) (count : Count) → IfErr (if used then Err Store else if full then Err Store else Ok count) IsStore
drawn_store true full count = refl
drawn_store false true count = refl
drawn_store false false count = tt

begun_store : (part : Part) (memory : Memory) (s : Objects) (cells : ℕ) (r : Result Count Trap) → IfErr r IsStore →
    IfErr (changed part memory (begun_if r s cells)) IsStore
begun_store part memory s cells (Ok count) h = tt
begun_store part memory s cells (Err trap) h = h

pub begin_store : (memory : Memory) (part : Part) (cells : ℕ) → IfErr (begin_of part memory cells) IsStore
begin_store memory part cells =
    let s = objects_of part memory in
    begun_store part memory s cells (draw_of part (count_of s) cells)
    (drawn_store (nat_lt (last_number part) s.fresh) (nat_lt s.budget (live_cells s + cells))
    (record { fresh = s.fresh + 1; cells = live_cells s + cells; budget = s.budget }))
