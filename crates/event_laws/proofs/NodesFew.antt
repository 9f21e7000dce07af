-- Nodes give no more events than their parts, but for what an operator of their own counts.
use Rattle.std.proofs.Common.{ℕ, ◌+◌, ◌≤◌, List, [], ◌∷◌, arith}
use Rattle.std.specs.Prelude.{◌==◌}
use Rattle.srmt_base.specs.declared.ty.Ty.{Ty}
use Rattle.srmt_base.specs.declared.ty.Ty.TheVariants.{Int}
use Rattle.srmt_base.specs.declared.op.Op.{Op}
use Rattle.srmt_base.specs.Types.{ty_code}
use Rattle.srmt_base.specs.Arith.{is_comparison}
use Rattle.c_types.specs.declared.form.BinaryForm.{BinaryForm}
use Rattle.c_types.specs.declared.form.BinaryForm.TheVariants as form
use Rattle.c_types.specs.declared.form.ChoiceForm.{ChoiceForm}
use Rattle.c_types.specs.declared.form.ChoiceForm.TheVariants as choice_form
use Rattle.c_types.specs.declared.form.Conversion.{Conversion}
use Rattle.c_types.specs.declared.form.Conversion.TheVariants as to
use Rattle.c_types.specs.Types.{CType, void, integer, same_type, is_array, is_void, is_integer, decayed, ty_of}
use Rattle.c_typed.specs.Typed as t
use Rattle.c_typed.specs.Typed.{Place, place, Value, value, ValueNode, type_of, start_of, place_type}
use Rattle.source_meaning.specs.EventLaws.{events_of, events_at, events_in}
use Rattle.typing_rules.specs.Terms.{Written, written_type, value_at, converted, promoted_value, repointed, null_of, converted_by, pointers_node, binary_node, binary_value, negated_value, branch, first_branch, second_branch, choice_value, element_place, Change, changed_value, assigned_value, cast_value, values_of}
use Rattle.typing_rules.proofs.LanguageNodesMade.{if_has}

abbrev pub Within : ℕ → Value → Type 0
Within n v = events_of v ≤ n

-- a place has an event to spare, with which it is read or written
abbrev pub PlaceWithin : ℕ → Place → Type 0
PlaceWithin n p = events_at p + 1 ≤ n

-- ---- values

pub value_at_within : (n : ℕ) (p : Place) → PlaceWithin n p → Within n (value_at p)
unfolding events_of
value_at_within n (place line type node) h =
    if_has (Within n) (is_array type.type) (value line (decayed type.type) (t.first_element (place line type node)))
    (value line type.type (t.read (place line type node))) (omega (arith, h)) h

pub converted_within : (n : ℕ) (ty : Ty) (w : Written) → Within n w.value → Within n (converted ty w)
unfolding events_of
converted_within n ty w h =
    if_has (Within n) (ty_code (ty_of (written_type w)) == ty_code ty) w.value (value w.first (integer ty) (t.conversion w.first w.value)) h h

pub promoted_within : (n : ℕ) (w : Written) → Within n w.value → Within n (promoted_value w)
promoted_within n w h = converted_within n _ w h

repointed_within : (n : ℕ) (t : CType) (v : Value) → Within n v → Within n (repointed t v)
unfolding events_of
repointed_within n u v h = if_has (Within n) (same_type (type_of v) u) v (value (start_of v) u (t.requalified v)) h h

null_within : (n : ℕ) (t : CType) (v : Value) → Within n (null_of t v)
unfolding events_of
null_within n t v = omega arith

pub converted_by_within : (n : ℕ) (f : Conversion) (t : CType) (w : Written) → Within n w.value → Within n (converted_by f t w)
unfolding events_of
converted_by_within n (to.Integer from target) t w h = converted_within n target w h
converted_by_within n to.PointerToBool t w h = h
converted_by_within n to.Null t w h = null_within n t w.value
converted_by_within n to.Pointer t w h = repointed_within n t w.value h

pub negated_within : (n line : ℕ) (w : Written) → Within n w.value → Within n (negated_value line w)
unfolding events_of
negated_within n line w h =
    if_has (Within n) (is_integer (written_type w)) (value line (integer Int) (t.negation (promoted_value w)))
    (value line (integer Int) (t.negation w.value)) (promoted_within n w h) h

pub minus_within : (n line : ℕ) (ty : Ty) (w : Written) → Within n w.value → Within n (value line (integer ty) (t.minus (converted ty w)))
unfolding events_of
minus_within n line ty w h = converted_within n ty w h

pub complement_within : (n line : ℕ) (ty : Ty) (w : Written) → Within n w.value
    → Within n (value line (integer ty) (t.complement (converted ty w)))
unfolding events_of
complement_within n line ty w h = converted_within n ty w h

pub cast_within : (n line : ℕ) (t : CType) (w : Written) → Within n w.value → Within n (cast_value line t w)
unfolding events_of
cast_within n line u w h =
    if_has (Within n) (is_void u) (value line void (t.discarded w.value)) (value line u (t.conversion w.first w.value)) h h

-- ---- operators between two operands

pub both : (a b m n : ℕ) → a ≤ m → b ≤ n → a + b ≤ m + n
both a b m n h k = omega (arith, h, k)

module _ (m n : ℕ) (a b : Written) (h : Within m a.value) (k : Within n b.value) where
  pointers_within : (line : ℕ) (type : CType) (op : Op) (at : ℕ) (x y : Value) → Within m x → Within n y
      → Within (m + n) (value line type (pointers_node op at x y))
  unfolding events_of
  pointers_within line type op at x y p q =
      if_has (λ node. Within (m + n) (value line type node)) (is_comparison op) (t.comparison op at x y) (t.difference at x y)
      (both _ _ m n p q) (both _ _ m n p q)

  node_within : (line : ℕ) (type : CType) (op : Op) (at : ℕ) (f : BinaryForm) → Within (m + n) (value line type (binary_node op at f a b))
  unfolding events_of
  node_within line type op at (form.Integers ty) = both _ _ m n (converted_within m ty a h) (converted_within n ty b k)
  node_within line type op at (form.Shift ty) = both _ _ m n (converted_within m ty a h) (promoted_within n b k)
  node_within line type op at form.PointerAndInteger = both _ _ m n h (promoted_within n b k)
  node_within line type op at form.IntegerAndPointer = both _ _ m n (promoted_within m a h) k
  node_within line type op at form.Pointers = pointers_within line type op at a.value b.value h k
  node_within line type op at form.PointerAndNull =
      pointers_within line type op at a.value (null_of (written_type a) b.value) h (null_within n (written_type a) b.value)
  node_within line type op at form.NullAndPointer =
      pointers_within line type op at (null_of (written_type b) a.value) b.value (null_within m (written_type b) a.value) k

  pub binary_within : (line : ℕ) (op : Op) (at : ℕ) (f : BinaryForm) → Within (m + n) (binary_value line op at f a b)
  binary_within line op at f = node_within line _ op at f

  pub element_within : (line at : ℕ) (f : BinaryForm) → PlaceWithin (1 + (m + n)) (element_place line at f a b)
  unfolding events_of
  element_within line at (form.Integers ty) = let e = both _ _ m n (promoted_within m a h) k in omega (arith, e)
  element_within line at (form.Shift ty) = let e = both _ _ m n (promoted_within m a h) k in omega (arith, e)
  element_within line at form.PointerAndInteger = let e = both _ _ m n h (promoted_within n b k) in omega (arith, e)
  element_within line at form.IntegerAndPointer = let e = both _ _ m n (promoted_within m a h) k in omega (arith, e)
  element_within line at form.Pointers = let e = both _ _ m n (promoted_within m a h) k in omega (arith, e)
  element_within line at form.PointerAndNull = let e = both _ _ m n (promoted_within m a h) k in omega (arith, e)
  element_within line at form.NullAndPointer = let e = both _ _ m n (promoted_within m a h) k in omega (arith, e)

-- ---- `?:`

branch_within : (n : ℕ) (f : ChoiceForm) (t : CType) (w : Written) → Within n w.value → Within n (branch f t w)
branch_within n (choice_form.Integers ty) t w h = converted_within n ty w h
branch_within n choice_form.Voids t w h = h
branch_within n choice_form.Pointers t w h = repointed_within n t w.value h
branch_within n choice_form.PointerAndNull t w h = h
branch_within n choice_form.NullAndPointer t w h = h

first_within : (n : ℕ) (f : ChoiceForm) (t : CType) (w : Written) → Within n w.value → Within n (first_branch f t w)
first_within n (choice_form.Integers ty) t w h = branch_within n (choice_form.Integers ty) t w h
first_within n choice_form.Voids t w h = h
first_within n choice_form.Pointers t w h = branch_within n choice_form.Pointers t w h
first_within n choice_form.PointerAndNull t w h = h
first_within n choice_form.NullAndPointer t w h = null_within n t w.value

second_within : (n : ℕ) (f : ChoiceForm) (t : CType) (w : Written) → Within n w.value → Within n (second_branch f t w)
second_within n (choice_form.Integers ty) t w h = branch_within n (choice_form.Integers ty) t w h
second_within n choice_form.Voids t w h = h
second_within n choice_form.Pointers t w h = branch_within n choice_form.Pointers t w h
second_within n choice_form.PointerAndNull t w h = null_within n t w.value
second_within n choice_form.NullAndPointer t w h = h

pub choice_within : (l m n line : ℕ) (f : ChoiceForm) (test : Value) (a b : Written) → Within l test → Within m a.value → Within n b.value
    → Within (l + (m + n)) (choice_value line f test a b)
unfolding events_of
choice_within l m n line f test a b e h k = both _ _ l (m + n) e (both _ _ m n (first_within m f _ a h) (second_within n f _ b k))

-- ---- assignments

assigns : (p v m n : ℕ) → p + 1 ≤ m → v ≤ n → p + (v + 1) ≤ m + n
assigns p v m n h k = omega (arith, h, k)

changes : (p v m n : ℕ) → p + 1 ≤ m → v ≤ n → p + (1 + (v + 1)) ≤ 1 + (m + n)
changes p v m n h k = omega (arith, h, k)

module _ (m n line : ℕ) (p : Place) (w : Written) (h : PlaceWithin m p) (k : Within n w.value) where
  pub assigned_within : (f : Conversion) → Within (m + n) (assigned_value line f p w)
  unfolding events_of
  assigned_within f = assigns _ _ m n h (converted_by_within n f (place_type p).type w k)

  pub changed_within : (c : Change) (f : BinaryForm) → Within (1 + (m + n)) (changed_value line c f p w)
  unfolding events_of
  changed_within c (form.Integers ty) = changes _ _ m n h (converted_within n ty w k)
  changed_within c (form.Shift ty) = changes _ _ m n h (promoted_within n w k)
  changed_within c form.PointerAndInteger = changes _ _ m n h (promoted_within n w k)
  changed_within c form.IntegerAndPointer = changes _ _ m n h k
  changed_within c form.Pointers = changes _ _ m n h k
  changed_within c form.PointerAndNull = changes _ _ m n h k
  changed_within c form.NullAndPointer = changes _ _ m n h k

-- ---- lists

abbrev pub events_written : List Written → ℕ
events_written [] = 0
events_written (w ∷ ws) = events_of w.value + events_written ws

pub values_within : (n : ℕ) (ws : List Written) → events_written ws ≤ n → events_in (values_of ws) ≤ n
unfolding events_of
values_within n [] h = h
values_within n (w ∷ ws) h = let rest = values_within (events_written ws) ws (omega arith) in omega (arith, h, rest)
