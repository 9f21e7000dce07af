-- Nodes that are made of nodes with types of the language have such types.
use Rattle.std.proofs.Common.{ℕ, Bool as Test, true, false, List, [], ◌∷◌}
use Rattle.std.specs.Prelude.{if◌then◌else◌, ◌==◌}
use Rattle.srmt_base.specs.declared.ty.Ty.{Ty}
use Rattle.srmt_base.specs.declared.op.Op.{Op}
use Rattle.srmt_base.specs.Types.{ty_code}
use Rattle.srmt_base.specs.Arith.{is_comparison}
use Rattle.c_types.specs.declared.form.BinaryForm.{BinaryForm}
use Rattle.c_types.specs.declared.form.BinaryForm.TheVariants as form
use Rattle.c_types.specs.declared.form.ChoiceForm.{ChoiceForm}
use Rattle.c_types.specs.declared.form.ChoiceForm.TheVariants as choice_form
use Rattle.c_types.specs.declared.form.Conversion.{Conversion}
use Rattle.c_types.specs.declared.form.Conversion.TheVariants as to
use Rattle.c_types.specs.Types.{CType, void, integer, Qualified, same_type, is_array, is_void, is_integer, decayed, ty_of}
use Rattle.c_types.specs.Rules.{computed_type, choice_type}
use Rattle.c_typed.specs.Typed as typed
use Rattle.c_typed.specs.Typed.{Place, place, Value, value, ValueNode, Values, no_values, first_value, type_of, start_of, place_type}
use Rattle.typing_rules.specs.Terms.{Written, written_type, value_at, converted, promoted_value, repointed, null_of, converted_by, pointers_node, binary_node, binary_value, negated_value, branch, first_branch, second_branch, choice_value, Change, change_node, changed_value, assigned_value, cast_value, values_of}
use Rattle.typing_rules.specs.Laws.{Each}
use Rattle.typing_rules.specs.LanguageTypes.{IsOfLanguage, IsObjectType, HasTypes, PlaceHasTypes, PlaceNodeHasTypes, NodeHasTypes, AllHaveTypes}
use Rattle.typing_rules.proofs.LanguageTypesMade.{decayed_is}

abbrev pub IsTyped : Written → Type 0
IsTyped w = HasTypes w.value

pub value_is : (line : ℕ) (type : CType) (node : ValueNode) → IsOfLanguage type → NodeHasTypes node → HasTypes (value line type node)
unfolding HasTypes
value_is line type node h n = (h, n)

pub place_is : (line : ℕ) (type : Qualified) (node : typed.PlaceNode) → IsObjectType type.type → PlaceNodeHasTypes node → PlaceHasTypes (place line type node)
unfolding HasTypes
place_is line type node h n = (h, n)

pub integer_is : (ty : Ty) → IsOfLanguage (integer ty)
unfolding IsOfLanguage
integer_is ty = tt

pub void_is : IsOfLanguage void
unfolding IsOfLanguage
void_is = tt

pub type_is : (v : Value) → HasTypes v → IsOfLanguage (type_of v)
unfolding HasTypes
type_is (value line type node) h = h.0

pub place_type_is : (p : Place) → PlaceHasTypes p → IsObjectType (place_type p).type
unfolding HasTypes
place_type_is (place line type node) h = h.0

pub if_has : {A : Type 0} (P : A → Type 0) (test : Test) (a b : A) → P a → P b → P (if test then a else b)
if_has P true a b h k = h
if_has P false a b h k = k

pub value_at_has : (p : Place) → PlaceHasTypes p → HasTypes (value_at p)
unfolding HasTypes
value_at_has (place line type node) h =
    if_has HasTypes (is_array type.type) (value line (decayed type.type) (typed.first_element (place line type node)))
    (value line type.type (typed.read (place line type node))) (decayed_is type.type h.0.of_language, h) (h.0.of_language, h)

pub converted_has : (ty : Ty) (w : Written) → IsTyped w → HasTypes (converted ty w)
unfolding HasTypes
converted_has ty w h =
    if_has HasTypes (ty_code (ty_of (written_type w)) == ty_code ty) w.value (value w.first (integer ty) (typed.conversion w.first w.value))
    h (integer_is ty, h)

pub promoted_has : (w : Written) → IsTyped w → HasTypes (promoted_value w)
promoted_has w h = converted_has _ w h

pub repointed_has : (t : CType) (v : Value) → IsOfLanguage t → HasTypes v → HasTypes (repointed t v)
unfolding HasTypes
repointed_has t v l h = if_has HasTypes (same_type (type_of v) t) v (value (start_of v) t (typed.requalified v)) h (l, h)

pub null_has : (t : CType) (v : Value) → IsOfLanguage t → HasTypes (null_of t v)
unfolding HasTypes
null_has t v l = (l, tt)

pub converted_by_has : (f : Conversion) (t : CType) (w : Written) → IsOfLanguage t → IsTyped w → HasTypes (converted_by f t w)
unfolding HasTypes
converted_by_has (to.Integer from target) t w l h = converted_has target w h
converted_by_has to.PointerToBool t w l h = (l, h)
converted_by_has to.Null t w l h = null_has t w.value l
converted_by_has to.Pointer t w l h = repointed_has t w.value l h

-- ---- operators

pointers_has : (op : Op) (at : ℕ) (a b : Value) → HasTypes a → HasTypes b → NodeHasTypes (pointers_node op at a b)
unfolding HasTypes
pointers_has op at a b h k = if_has NodeHasTypes (is_comparison op) (typed.comparison op at a b) (typed.difference at a b) (h, k) (h, k)

binary_node_has : (op : Op) (at : ℕ) (f : BinaryForm) (a b : Written) → IsTyped a → IsTyped b → NodeHasTypes (binary_node op at f a b)
unfolding HasTypes
binary_node_has op at (form.Integers ty) a b h k = (converted_has ty a h, converted_has ty b k)
binary_node_has op at (form.Shift ty) a b h k = (converted_has ty a h, promoted_has b k)
binary_node_has op at form.PointerAndInteger a b h k = (h, promoted_has b k)
binary_node_has op at form.IntegerAndPointer a b h k = (promoted_has a h, k)
binary_node_has op at form.Pointers a b h k = pointers_has op at a.value b.value h k
binary_node_has op at form.PointerAndNull a b h k =
    pointers_has op at a.value (null_of (written_type a) b.value) h (null_has _ b.value (type_is a.value h))
binary_node_has op at form.NullAndPointer a b h k =
    pointers_has op at (null_of (written_type b) a.value) b.value (null_has _ a.value (type_is b.value k)) k

computed_is : (f : BinaryForm) (a b : CType) → IsOfLanguage a → IsOfLanguage b → IsOfLanguage (computed_type f a b)
computed_is (form.Integers ty) a b h k = integer_is ty
computed_is (form.Shift ty) a b h k = integer_is ty
computed_is form.PointerAndInteger a b h k = h
computed_is form.IntegerAndPointer a b h k = k
computed_is form.Pointers a b h k = integer_is _
computed_is form.PointerAndNull a b h k = integer_is _
computed_is form.NullAndPointer a b h k = integer_is _

pub binary_has : (line : ℕ) (op : Op) (at : ℕ) (f : BinaryForm) (a b : Written) → IsTyped a → IsTyped b → HasTypes (binary_value line op at f a b)
unfolding HasTypes
binary_has line op at f a b h k = (
  if_has IsOfLanguage (is_comparison op) (integer _) (computed_type f (written_type a) (written_type b)) (integer_is _)
      (computed_is f (written_type a) (written_type b) (type_is a.value h) (type_is b.value k)),
  binary_node_has op at f a b h k,
)

pub negated_has : (line : ℕ) (w : Written) → IsTyped w → HasTypes (negated_value line w)
unfolding HasTypes
negated_has line w h =
    if_has HasTypes (is_integer (written_type w)) (value line (integer _) (typed.negation (promoted_value w)))
    (value line (integer _) (typed.negation w.value)) (integer_is _, promoted_has w h) (integer_is _, h)

branch_has : (f : ChoiceForm) (t : CType) (w : Written) → IsOfLanguage t → IsTyped w → HasTypes (branch f t w)
branch_has (choice_form.Integers ty) t w l h = converted_has ty w h
branch_has choice_form.Voids t w l h = h
branch_has choice_form.Pointers t w l h = repointed_has t w.value l h
branch_has choice_form.PointerAndNull t w l h = h
branch_has choice_form.NullAndPointer t w l h = h

first_has : (f : ChoiceForm) (t : CType) (w : Written) → IsOfLanguage t → IsTyped w → HasTypes (first_branch f t w)
first_has (choice_form.Integers ty) t w l h = branch_has (choice_form.Integers ty) t w l h
first_has choice_form.Voids t w l h = h
first_has choice_form.Pointers t w l h = branch_has choice_form.Pointers t w l h
first_has choice_form.PointerAndNull t w l h = h
first_has choice_form.NullAndPointer t w l h = null_has t w.value l

second_has : (f : ChoiceForm) (t : CType) (w : Written) → IsOfLanguage t → IsTyped w → HasTypes (second_branch f t w)
second_has (choice_form.Integers ty) t w l h = branch_has (choice_form.Integers ty) t w l h
second_has choice_form.Voids t w l h = h
second_has choice_form.Pointers t w l h = branch_has choice_form.Pointers t w l h
second_has choice_form.PointerAndNull t w l h = null_has t w.value l
second_has choice_form.NullAndPointer t w l h = h

pub choice_has : (line : ℕ) (f : ChoiceForm) (test : Value) (a b : Written) → IsOfLanguage (choice_type f (written_type a) (written_type b))
    → HasTypes test → IsTyped a → IsTyped b → HasTypes (choice_value line f test a b)
unfolding HasTypes
choice_has line f test a b l e h k = (l, (e, first_has f _ a l h, second_has f _ b l k))

-- ---- assignments, casts, lists

change_node_has : (c : Change) (f : BinaryForm) (p : Place) (w : Written) → PlaceHasTypes p → IsTyped w → NodeHasTypes (change_node c f p w)
unfolding HasTypes
change_node_has c (form.Integers ty) p w h k = (h, converted_has ty w k)
change_node_has c (form.Shift ty) p w h k = (h, promoted_has w k)
change_node_has c form.PointerAndInteger p w h k = (h, promoted_has w k)
change_node_has c form.IntegerAndPointer p w h k = (h, k)
change_node_has c form.Pointers p w h k = (h, k)
change_node_has c form.PointerAndNull p w h k = (h, k)
change_node_has c form.NullAndPointer p w h k = (h, k)

pub changed_has : (line : ℕ) (c : Change) (f : BinaryForm) (p : Place) (w : Written) → PlaceHasTypes p → IsTyped w → HasTypes (changed_value line c f p w)
unfolding HasTypes
changed_has line c f p w h k = ((place_type_is p h).of_language, change_node_has c f p w h k)

pub assigned_has : (line : ℕ) (f : Conversion) (p : Place) (w : Written) → PlaceHasTypes p → IsTyped w → HasTypes (assigned_value line f p w)
unfolding HasTypes
assigned_has line f p w h k =
    let l = (place_type_is p h).of_language in (l, (h, converted_by_has f (place_type p).type w l k))

pub cast_has : (line : ℕ) (t : CType) (w : Written) → IsOfLanguage t → IsTyped w → HasTypes (cast_value line t w)
unfolding HasTypes
cast_has line t w l h =
    if_has HasTypes (is_void t) (value line void (typed.discarded w.value)) (value line t (typed.conversion w.first w.value)) (void_is, h) (l, h)

pub values_have : (ws : List Written) → Each IsTyped ws → AllHaveTypes (values_of ws)
unfolding HasTypes
values_have [] h = tt
values_have (w ∷ ws) h = (h.0, values_have ws h.1)
