-- Nodes that are made of nodes that run, as the rules of their operators allow, run too.
use Rattle.std.proofs.Common.{◌≡◌, ℕ, ◌*◌, ◌≤◌, Bool as Test, true, false, List, [], ◌∷◌, refl, sym, subst, Some, None, inl, inr, arith}
use Rattle.std.specs.Prelude.{if◌then◌else◌, ◌==◌, nat_lt, IsTrue}
use Rattle.std.proofs.Math.Nat.{le-mul_of_pos_right, mul-le-mul_left, mul_left_comm}
use Rattle.srmt_base.specs.declared.ty.Ty.{Ty}
use Rattle.srmt_base.specs.declared.ty.Ty.TheVariants.{Bool, Char, SChar, UChar, Short, UShort, Int, UInt}
use Rattle.srmt_base.specs.declared.op.Op.{Op}
use Rattle.srmt_base.specs.declared.op.Op.TheVariants.{Add, Sub, Mul, Div, Rem, Shl, Shr, And, Or, Xor, Lt, Gt, Le, Ge, Eq, Ne}
use Rattle.srmt_base.specs.Types.{ty_code, width_of, is_signed, IsPromoted}
use Rattle.c_types.proofs.Same.{one-ty}
use Rattle.c_types.specs.declared.form.BinaryForm.{BinaryForm}
use Rattle.c_types.specs.declared.form.BinaryForm.TheVariants as form
use Rattle.c_types.specs.declared.form.ChoiceForm.{ChoiceForm}
use Rattle.c_types.specs.declared.form.ChoiceForm.TheVariants as choice_form
use Rattle.c_types.specs.declared.form.Conversion.{Conversion}
use Rattle.c_types.specs.declared.form.Conversion.TheVariants as to
use Rattle.c_types.specs.Types.{CType, void, integer, pointer, array, returning, taking, same_type, is_array, is_void, is_integer, is_complete, is_complete_pointer, decayed, ty_of, cells_of, cells_of_integer, bytes_of, bytes_of_integer}
use Rattle.c_types.specs.Conversions.{promoted, common, usual}
use Rattle.c_typed.specs.Typed as t
use Rattle.c_typed.specs.Typed.{Place, place, Value, value, ValueNode, Values, no_values, first_value, type_of, start_of, place_type}
use Rattle.source_meaning.specs.Values.{IsValue}
use Rattle.source_meaning.specs.Sound.{HasCells, HasScale, IsComputedAt}
use Rattle.typing_rules.specs.Terms.{Written, written_type, operand_of, value_at, converted, promoted_value, repointed, null_of, converted_by, binary_node, binary_value, negated_value, branch, first_branch, second_branch, choice_value, element_place, Change, change_node, changed_value, assigned_value, cast_value, values_of}
use Rattle.typing_rules.specs.Constraints.{Combines, Shifts, Moves, IsMovedBy, Steps, Operates, Changes, Indexes}
use Rattle.typing_rules.specs.Laws.{Each}
use Rattle.typing_rules.specs.LanguageTypes.{IsOfLanguage}
use Rattle.typing_rules.proofs.LanguageNodesMade.{if_has}
use Rattle.running_laws.proofs.Running.{Runs, PlaceRuns, NodeRuns, AllRun}

-- ---- cells of types of the language

integer_has_cells : (ty : Ty) → HasCells (integer ty)
integer_has_cells Bool = (omega arith, omega arith)
integer_has_cells Char = (omega arith, omega arith)
integer_has_cells SChar = (omega arith, omega arith)
integer_has_cells UChar = (omega arith, omega arith)
integer_has_cells Short = (omega arith, omega arith)
integer_has_cells UShort = (omega arith, omega arith)
integer_has_cells Int = (omega arith, omega arith)
integer_has_cells UInt = (omega arith, omega arith)

complete_is_one : (t : CType) → IsTrue (is_complete t) → IsOfLanguage t → 1 ≤ cells_of t
unfolding IsOfLanguage
complete_is_one void h l = absurd cc
complete_is_one (integer ty) h l = (integer_has_cells ty).0
complete_is_one (pointer q t) h l = omega arith
complete_is_one (array q t None) h l = absurd cc
complete_is_one (array q t (Some n)) h l = omega (arith, l.2.0, le-mul_of_pos_right n (complete_is_one t l.0 l.1))
complete_is_one (returning q t) h l = absurd cc
complete_is_one (taking p t) h l = absurd cc

language_is_small : (t : CType) → IsOfLanguage t → cells_of t ≤ 65535
unfolding IsOfLanguage
language_is_small void l = omega arith
language_is_small (integer ty) l = (integer_has_cells ty).1
language_is_small (pointer q t) l = omega arith
language_is_small (array q t n) l = l.3
language_is_small (returning q t) l = omega arith
language_is_small (taking p t) l = omega arith

-- an object of a complete type has its cells
pub complete_has_cells : (t : CType) → IsTrue (is_complete t) → IsOfLanguage t → HasCells t
complete_has_cells t h l = (complete_is_one t h l, language_is_small t l)

-- so has what a pointer to a complete type leads to
pub has_scale : (t : CType) → IsTrue (is_complete_pointer t) → IsOfLanguage t → HasScale t
unfolding IsOfLanguage
has_scale void h l = absurd cc
has_scale (integer ty) h l = absurd cc
has_scale (pointer q t) h l = complete_has_cells t h l.1
has_scale (array q t n) h l = absurd cc
has_scale (returning q t) h l = absurd cc
has_scale (taking p t) h l = absurd cc

integer_bytes : (ty : Ty) → bytes_of_integer ty ≤ 4 * cells_of_integer ty
integer_bytes Bool = omega arith
integer_bytes Char = omega arith
integer_bytes SChar = omega arith
integer_bytes UChar = omega arith
integer_bytes Short = omega arith
integer_bytes UShort = omega arith
integer_bytes Int = omega arith
integer_bytes UInt = omega arith

-- no cell has more than four bytes
bytes_are_few : (t : CType) → bytes_of t ≤ 4 * cells_of t
bytes_are_few void = omega arith
bytes_are_few (integer ty) = integer_bytes ty
bytes_are_few (pointer q t) = omega arith
bytes_are_few (array q t None) = omega arith
bytes_are_few (array q t (Some n)) = many n (bytes_of t) (cells_of t) (bytes_are_few t)
  where
    many : (n b c : ℕ) → b ≤ 4 * c → n * b ≤ 4 * (n * c)
    many n b c h = subst (λ m. n * b ≤ m) (mul_left_comm n 4 c) (mul-le-mul_left n h)
bytes_are_few (returning q t) = omega arith
bytes_are_few (taking p t) = omega arith

-- `sizeof` gives a value
pub size_is_value : (t : CType) → IsOfLanguage t → IsValue (bytes_of t)
size_is_value t l = omega (arith, bytes_are_few t, language_is_small t l)

-- ---- types at which arithmetic is made

pub promoted_is : (ty : Ty) → IsPromoted (promoted ty)
promoted_is Bool = tt
promoted_is Char = tt
promoted_is SChar = tt
promoted_is UChar = tt
promoted_is Short = tt
promoted_is UShort = tt
promoted_is Int = tt
promoted_is UInt = tt

common_is : (a b : Ty) → IsPromoted a → IsPromoted b → IsPromoted (common a b)
common_is a b h k =
    if_has IsPromoted (nat_lt (width_of b) (width_of a)) a _ h
    (if_has IsPromoted (nat_lt (width_of a) (width_of b)) b _ k (if_has IsPromoted (is_signed a) b a k h))

usual_is : (a b : Ty) → IsPromoted (usual a b)
usual_is a b = common_is (promoted a) (promoted b) (promoted_is a) (promoted_is b)

-- an operand that is converted to a promoted type is computed at one
computed_at : (ty : Ty) (w : Written) → IsPromoted ty → IsComputedAt (type_of (converted ty w))
computed_at ty w h = by (ty_code (ty_of (written_type w)) == ty_code ty) refl
  where
    by : (b : Test) → (ty_code (ty_of (written_type w)) == ty_code ty) ≡ b
        → IsComputedAt (type_of (if b then w.value else value w.first (integer ty) (t.conversion w.first w.value)))
    by true e = subst IsPromoted (sym (one-ty (ty_of (written_type w)) ty e)) h
    by false e = h

-- ---- values

pub value_at_runs : (p : Place) → PlaceRuns p → Runs (value_at p)
unfolding Runs
value_at_runs (place line type node) h =
    if_has Runs (is_array type.type) (value line (decayed type.type) (t.first_element (place line type node)))
    (value line type.type (t.read (place line type node))) h h

pub converted_runs : (ty : Ty) (w : Written) → Runs w.value → Runs (converted ty w)
unfolding Runs
converted_runs ty w h =
    if_has Runs (ty_code (ty_of (written_type w)) == ty_code ty) w.value (value w.first (integer ty) (t.conversion w.first w.value)) h h

pub promoted_runs : (w : Written) → Runs w.value → Runs (promoted_value w)
promoted_runs w h = converted_runs _ w h

repointed_runs : (t : CType) (v : Value) → Runs v → Runs (repointed t v)
unfolding Runs
repointed_runs u v h = if_has Runs (same_type (type_of v) u) v (value (start_of v) u (t.requalified v)) h h

null_runs : (t : CType) (v : Value) → Runs (null_of t v)
unfolding Runs
null_runs t v = tt

pub converted_by_runs : (f : Conversion) (t : CType) (w : Written) → Runs w.value → Runs (converted_by f t w)
unfolding Runs
converted_by_runs (to.Integer from target) t w h = converted_runs target w h
converted_by_runs to.PointerToBool t w h = h
converted_by_runs to.Null t w h = null_runs t w.value
converted_by_runs to.Pointer t w h = repointed_runs t w.value h

pub negated_runs : (line : ℕ) (w : Written) → Runs w.value → Runs (negated_value line w)
unfolding Runs
negated_runs line w h =
    if_has Runs (is_integer (written_type w)) (value line (integer Int) (t.negation (promoted_value w)))
    (value line (integer Int) (t.negation w.value)) (promoted_runs w h) h

pub minus_runs : (line : ℕ) (ty : Ty) (w : Written) → IsPromoted ty → Runs w.value → Runs (value line (integer ty) (t.minus (converted ty w)))
unfolding Runs
minus_runs line ty w p h = (computed_at ty w p, converted_runs ty w h)

pub complement_runs : (line : ℕ) (ty : Ty) (w : Written) → IsPromoted ty → Runs w.value
    → Runs (value line (integer ty) (t.complement (converted ty w)))
unfolding Runs
complement_runs line ty w p h = (computed_at ty w p, converted_runs ty w h)

-- ---- operators between two operands

module _ (op : Op) (at : ℕ) (a b : Written) (la : IsOfLanguage (written_type a)) (lb : IsOfLanguage (written_type b))
    (h : Runs a.value) (k : Runs b.value) where
  combined_runs : (f : BinaryForm) → Combines (written_type a) (written_type b) f → NodeRuns (binary_node op at f a b)
  unfolding Runs
  combined_runs f p =
      let u = usual_is (ty_of (written_type a)) (ty_of (written_type b)) in
      subst (λ g. NodeRuns (binary_node op at g a b)) (sym p.2) (computed_at _ a u, converted_runs _ a h, converted_runs _ b k)

  shifted_runs : (f : BinaryForm) → Shifts (written_type a) (written_type b) f → NodeRuns (binary_node op at f a b)
  unfolding Runs
  shifted_runs f p =
      subst (λ g. NodeRuns (binary_node op at g a b)) (sym p.2)
      (computed_at _ a (promoted_is (ty_of (written_type a))), converted_runs _ a h, promoted_runs b k)

  moved_runs : (f : BinaryForm) → Moves (written_type a) (written_type b) f → NodeRuns (binary_node op at f a b)
  unfolding Runs
  moved_runs f p = subst (λ g. NodeRuns (binary_node op at g a b)) (sym p.2) (has_scale (written_type a) p.0 la, h, promoted_runs b k)

  moved_by_runs : (f : BinaryForm) → IsMovedBy (written_type a) (written_type b) f → NodeRuns (binary_node op at f a b)
  unfolding Runs
  moved_by_runs f p = subst (λ g. NodeRuns (binary_node op at g a b)) (sym p.2) (has_scale (written_type b) p.1 lb, promoted_runs a h, k)

  stepped_runs : (f : BinaryForm) → Steps (written_type a) (written_type b) f → NodeRuns (binary_node op at f a b)
  stepped_runs f (inl p) = combined_runs f p
  stepped_runs f (inr p) = moved_runs f p

module _ (at : ℕ) (a b : Written) (la : IsOfLanguage (written_type a)) (lb : IsOfLanguage (written_type b)) (h : Runs a.value) (k : Runs b.value) where
  apart_runs : (f : BinaryForm) → IsTrue (is_complete_pointer (written_type a)) → f ≡ form.Pointers → NodeRuns (binary_node Sub at f a b)
  unfolding Runs
  apart_runs f p e = subst (λ g. NodeRuns (binary_node Sub at g a b)) (sym e) (has_scale (written_type a) p la, h, k)

  node_runs : (op : Op) (f : BinaryForm) → Operates op (operand_of a.value) (operand_of b.value) f → NodeRuns (binary_node op at f a b)
  unfolding Runs
  node_runs Add f (inl p) = moved_by_runs Add at a b la lb h k f p
  node_runs Add f (inr p) = stepped_runs Add at a b la lb h k f p
  node_runs Sub f (inl p) = apart_runs f p.0 p.3
  node_runs Sub f (inr p) = stepped_runs Sub at a b la lb h k f p
  node_runs Mul f p = combined_runs Mul at a b la lb h k f p
  node_runs Div f p = combined_runs Div at a b la lb h k f p
  node_runs Rem f p = combined_runs Rem at a b la lb h k f p
  node_runs Shl f p = shifted_runs Shl at a b la lb h k f p
  node_runs Shr f p = shifted_runs Shr at a b la lb h k f p
  node_runs And f p = combined_runs And at a b la lb h k f p
  node_runs Or f p = combined_runs Or at a b la lb h k f p
  node_runs Xor f p = combined_runs Xor at a b la lb h k f p
  node_runs Lt f (inl p) = combined_runs Lt at a b la lb h k f p
  node_runs Lt f (inr p) = subst (λ g. NodeRuns (binary_node Lt at g a b)) (sym p.2) (refl, h, k)
  node_runs Gt f (inl p) = combined_runs Gt at a b la lb h k f p
  node_runs Gt f (inr p) = subst (λ g. NodeRuns (binary_node Gt at g a b)) (sym p.2) (refl, h, k)
  node_runs Le f (inl p) = combined_runs Le at a b la lb h k f p
  node_runs Le f (inr p) = subst (λ g. NodeRuns (binary_node Le at g a b)) (sym p.2) (refl, h, k)
  node_runs Ge f (inl p) = combined_runs Ge at a b la lb h k f p
  node_runs Ge f (inr p) = subst (λ g. NodeRuns (binary_node Ge at g a b)) (sym p.2) (refl, h, k)
  node_runs Eq f (inl p) = combined_runs Eq at a b la lb h k f p
  node_runs Eq f (inr (inl p)) = subst (λ g. NodeRuns (binary_node Eq at g a b)) (sym p.1) (refl, h, k)
  node_runs Eq f (inr (inr (inl p))) = subst (λ g. NodeRuns (binary_node Eq at g a b)) (sym p.2) (refl, h, null_runs (written_type a) b.value)
  node_runs Eq f (inr (inr (inr p))) = subst (λ g. NodeRuns (binary_node Eq at g a b)) (sym p.2) (refl, null_runs (written_type b) a.value, k)
  node_runs Ne f (inl p) = combined_runs Ne at a b la lb h k f p
  node_runs Ne f (inr (inl p)) = subst (λ g. NodeRuns (binary_node Ne at g a b)) (sym p.1) (refl, h, k)
  node_runs Ne f (inr (inr (inl p))) = subst (λ g. NodeRuns (binary_node Ne at g a b)) (sym p.2) (refl, h, null_runs (written_type a) b.value)
  node_runs Ne f (inr (inr (inr p))) = subst (λ g. NodeRuns (binary_node Ne at g a b)) (sym p.2) (refl, null_runs (written_type b) a.value, k)

  pub binary_runs : (line : ℕ) (op : Op) (f : BinaryForm) → Operates op (operand_of a.value) (operand_of b.value) f → Runs (binary_value line op at f a b)
  unfolding Runs
  binary_runs line op f p = node_runs op f p

-- ---- `?:`

branch_runs : (f : ChoiceForm) (t : CType) (w : Written) → Runs w.value → Runs (branch f t w)
branch_runs (choice_form.Integers ty) t w h = converted_runs ty w h
branch_runs choice_form.Voids t w h = h
branch_runs choice_form.Pointers t w h = repointed_runs t w.value h
branch_runs choice_form.PointerAndNull t w h = h
branch_runs choice_form.NullAndPointer t w h = h

first_runs : (f : ChoiceForm) (t : CType) (w : Written) → Runs w.value → Runs (first_branch f t w)
first_runs (choice_form.Integers ty) t w h = branch_runs (choice_form.Integers ty) t w h
first_runs choice_form.Voids t w h = h
first_runs choice_form.Pointers t w h = branch_runs choice_form.Pointers t w h
first_runs choice_form.PointerAndNull t w h = h
first_runs choice_form.NullAndPointer t w h = null_runs t w.value

second_runs : (f : ChoiceForm) (t : CType) (w : Written) → Runs w.value → Runs (second_branch f t w)
second_runs (choice_form.Integers ty) t w h = branch_runs (choice_form.Integers ty) t w h
second_runs choice_form.Voids t w h = h
second_runs choice_form.Pointers t w h = branch_runs choice_form.Pointers t w h
second_runs choice_form.PointerAndNull t w h = null_runs t w.value
second_runs choice_form.NullAndPointer t w h = h

pub choice_runs : (line : ℕ) (f : ChoiceForm) (test : Value) (a b : Written) → Runs test → Runs a.value → Runs b.value
    → Runs (choice_value line f test a b)
unfolding Runs
choice_runs line f test a b e h k = (e, first_runs f _ a h, second_runs f _ b k)

-- ---- elements

pub element_runs : (line at : ℕ) (f : BinaryForm) (a b : Written) → Indexes (written_type a) (written_type b) f → IsOfLanguage (written_type a)
    → IsOfLanguage (written_type b) → Runs a.value → Runs b.value → PlaceRuns (element_place line at f a b)
unfolding Runs
element_runs line at f a b (inl p) la lb h k =
    subst (λ g. PlaceRuns (element_place line at g a b)) (sym p.2) (has_scale (written_type a) p.0 la, h, promoted_runs b k)
element_runs line at f a b (inr p) la lb h k =
    subst (λ g. PlaceRuns (element_place line at g a b)) (sym p.2) (has_scale (written_type b) p.1 lb, promoted_runs a h, k)

-- ---- changes: where a pointer moves, it is the place that holds one

module _ (c : Change) (p : Place) (type : CType) (by : Written) (h : PlaceRuns p) (k : Runs by.value) where
  combines_change : (f : BinaryForm) → Combines type (written_type by) f → NodeRuns (change_node c f p by)
  unfolding Runs
  combines_change f q =
      subst (λ g. NodeRuns (change_node c g p by)) (sym q.2) (usual_is (ty_of type) (ty_of (written_type by)), h, converted_runs _ by k)

  shifts_change : (f : BinaryForm) → Shifts type (written_type by) f → NodeRuns (change_node c f p by)
  unfolding Runs
  shifts_change f q = subst (λ g. NodeRuns (change_node c g p by)) (sym q.2) (promoted_is (ty_of type), h, promoted_runs by k)

  steps_change : (f : BinaryForm) → (IsTrue (is_complete_pointer type) → HasScale (place_type p).type) → Steps type (written_type by) f
      → NodeRuns (change_node c f p by)
  unfolding Runs
  steps_change f s (inl q) = combines_change f q
  steps_change f s (inr q) = subst (λ g. NodeRuns (change_node c g p by)) (sym q.2) (s q.0, h, promoted_runs by k)

  change_runs : (op : Op) (f : BinaryForm) → (IsTrue (is_complete_pointer type) → HasScale (place_type p).type) → Changes op type (written_type by) f
      → NodeRuns (change_node c f p by)
  change_runs Add f s q = steps_change f s q
  change_runs Sub f s q = steps_change f s q
  change_runs Mul f s q = combines_change f q
  change_runs Div f s q = combines_change f q
  change_runs Rem f s q = combines_change f q
  change_runs Shl f s q = shifts_change f q
  change_runs Shr f s q = shifts_change f q
  change_runs And f s q = combines_change f q
  change_runs Or f s q = combines_change f q
  change_runs Xor f s q = combines_change f q
  change_runs Lt f s q = absurd q
  change_runs Gt f s q = absurd q
  change_runs Le f s q = absurd q
  change_runs Ge f s q = absurd q
  change_runs Eq f s q = absurd q
  change_runs Ne f s q = absurd q

  pub changed_runs : (line : ℕ) (op : Op) (f : BinaryForm) → (IsTrue (is_complete_pointer type) → HasScale (place_type p).type)
      → Changes op type (written_type by) f → Runs (changed_value line c f p by)
  unfolding Runs
  changed_runs line op f s q = change_runs op f s q

pub assigned_runs : (line : ℕ) (f : Conversion) (p : Place) (w : Written) → PlaceRuns p → Runs w.value → Runs (assigned_value line f p w)
unfolding Runs
assigned_runs line f p w h k = (h, converted_by_runs f (place_type p).type w k)

-- ---- casts and lists

pub cast_runs : (line : ℕ) (t : CType) (w : Written) → Runs w.value → Runs (cast_value line t w)
unfolding Runs
cast_runs line u w h = if_has Runs (is_void u) (value line void (t.discarded w.value)) (value line u (t.conversion w.first w.value)) h h

pub values_run : (ws : List Written) → Each (λ w. Runs w.value) ws → AllRun (values_of ws)
unfolding Runs
values_run [] h = tt
values_run (w ∷ ws) h = (h.0, values_run ws h.1)
