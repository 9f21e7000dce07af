-- What the trees of the code stand for, in a table of types and in all that have more.
use Rattle.std.specs.Prelude.{◌≡◌, ℕ, Bool as Test, true, false, List, Result, Ok, Err, IfOk}
use Rattle.std.specs.declared.alloc.AllocError.{AllocError}
use Rattle.c_types.specs.Rules.{Ruled, binary_form}
use Rattle.c_types.specs.declared.form.BinaryForm.{BinaryForm}
use Rattle.c_types.specs.declared.form.BinaryForm.TheVariants as form
use Rattle.srmt_base.specs.declared.op.Op.{Op}
use Rattle.typing_rules.specs.declared.refusal.TypeRefusal.{TypeRefusal}
use Rattle.typing_rules.specs.declared.refusal.TypeRefusal.TheVariants.{Memory}
use Rattle.c_types.specs.declared.type_ref.Row.{Row}
use Rattle.c_types.specs.Table.{type_at, Extends, Stands}
use Rattle.c_typed.specs.declared.value.Value as v
use Rattle.c_typed.specs.declared.value.Place as p
use Rattle.c_typed.specs.declared.value.ValueNode as node
use Rattle.c_typed.specs.declared.constant.Constant.{Constant}
use Rattle.c_types.specs.declared.type_ref.TypeRef.{TypeRef}
use Rattle.srmt_base.specs.declared.ty.Ty.{Ty}
use Rattle.srmt_base.specs.declared.ty.Ty.TheVariants.{Int}
use Rattle.c_types.specs.Types.{CType, integer}
use Rattle.c_typed.specs.Typed.{Place, Value, value, arithmetic, conversion, negation}
use Rattle.c_typed.specs.Constants.{constant_of}
use Rattle.c_typed.specs.Views.{value_view, place_view}
use Rattle.typing_rules.specs.Terms as terms
use Rattle.c_values.specs.declared.typed.Typed.{Typed}
use Rattle.c_values.specs.declared.typed.Written.{Written}

pub record MeansValue (rows : List Row) (x : v.Value) (t : Value) : Type 0 where
  pub always : (later : List Row) → Extends rows later → value_view (type_at later) x ≡ t

pub record MeansPlace (rows : List Row) (x : p.Place) (t : Place) : Type 0 where
  pub always : (later : List Row) → Extends rows later → place_view (type_at later) x ≡ t

-- a value, and what it is as a constant
pub record MeansTyped (rows : List Row) (x : Typed) (t : Value) : Type 0 where
  pub value : MeansValue rows x.value t
  pub constant : x.constant ≡ constant_of t

pub record MeansWritten (rows : List Row) (x : Written) (t : terms.Written) : Type 0 where
  pub first : x.first ≡ t.first
  pub typed : MeansTyped rows x.typed t.value

-- an operand that is converted to an integer type
abbrev pub converted_value : Ty → terms.Written → Value
converted_value ty w = value w.first (integer ty) (conversion w.first w.value)

-- what is made where memory suffices
abbrev pub Makes : List Row → Result Typed AllocError → Value → Type 0
Makes rows result t = IfOk result (λ r. MeansTyped rows r t)

-- a value that was made so
pub record IsMade (x : Typed) (line : ℕ) (ty : TypeRef) (is : node.ValueNode) (constant : Constant) : Type 0 where
  pub line_is : x.value.line ≡ line
  pub ty_is : x.value.ty ≡ ty
  pub node_is : x.value.node ≡ is
  pub constant_is : x.constant ≡ constant

-- what was made, or want of memory
abbrev pub IsOrMemory : {X : Type 0} → Result X TypeRefusal → Result X AllocError → Type 0
IsOrMemory (Ok x) made = made ≡ Ok x
IsOrMemory (Err refusal) made = refusal ≡ Memory

-- ---- whatever the parts mean

abbrev pub TypedOne : List Row → TypeRef → Typed → (CType → Value → Type 0) → Type 0
TypedOne rows ty a P = (t : CType) (v : Value) → Stands rows ty t → MeansTyped rows a v → P t v

abbrev pub WrittenOne : List Row → TypeRef → Written → (CType → terms.Written → Type 0) → Type 0
WrittenOne rows ty a P = (t : CType) (v : terms.Written) → Stands rows ty t → MeansWritten rows a v → P t v

abbrev pub TypedTwo : List Row → TypeRef → Typed → Typed → (CType → Value → Value → Type 0) → Type 0
TypedTwo rows ty a b P = (t : CType) (v w : Value) → Stands rows ty t → MeansTyped rows a v → MeansTyped rows b w → P t v w

abbrev pub WrittenTwo : List Row → TypeRef → Written → Written → (CType → terms.Written → terms.Written → Type 0) → Type 0
WrittenTwo rows ty a b P = (t : CType) (v w : terms.Written) → Stands rows ty t → MeansWritten rows a v → MeansWritten rows b w → P t v w

abbrev pub TypedAndWritten : List Row → TypeRef → Typed → Written → (CType → Value → terms.Written → Type 0) → Type 0
TypedAndWritten rows ty a b P = (t : CType) (v : Value) (w : terms.Written) → Stands rows ty t → MeansTyped rows a v → MeansWritten rows b w → P t v w

abbrev pub WrittenAndTyped : List Row → TypeRef → Written → Typed → (CType → terms.Written → Value → Type 0) → Type 0
WrittenAndTyped rows ty a b P = (t : CType) (v : terms.Written) (w : Value) → Stands rows ty t → MeansWritten rows a v → MeansTyped rows b w → P t v w

abbrev pub Operands : List Row → Written → Written → (terms.Written → terms.Written → Type 0) → Type 0
Operands rows a b P = (v w : terms.Written) → MeansWritten rows a v → MeansWritten rows b w → P v w

-- ---- nodes of one operand

-- `!` of a value
abbrev pub negation_value : ℕ → Value → Value
negation_value line v = value line (integer Int) (negation v)

-- ---- nodes of two operands

-- the form of an operator on two operands, or the rule that is broken
abbrev pub form_of : Op → terms.Written → terms.Written → Ruled BinaryForm
form_of op a b = binary_form op (terms.operand_of a.value) (terms.operand_of b.value)

-- both converted to one type
abbrev pub integers_value : ℕ → CType → Op → ℕ → Ty → terms.Written → terms.Written → Value
integers_value line t op at ty a b = value line t (arithmetic op at (terms.converted ty a) (terms.converted ty b))

-- the left one converted, the right one promoted
abbrev pub shift_value : ℕ → CType → Op → ℕ → Ty → terms.Written → terms.Written → Value
shift_value line t op at ty a b = value line t (arithmetic op at (terms.converted ty a) (terms.promoted_value b))

-- whether the pointer of an index stands first
abbrev pub is_pointer_first : BinaryForm → Test
is_pointer_first form.PointerAndInteger = true
is_pointer_first (form.Integers ty) = false
is_pointer_first (form.Shift ty) = false
is_pointer_first form.IntegerAndPointer = false
is_pointer_first form.Pointers = false
is_pointer_first form.PointerAndNull = false
is_pointer_first form.NullAndPointer = false
