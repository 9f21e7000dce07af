-- How the nodes of the typed tree are made of their parts. Nothing here tests anything.
use Rattle.std.specs.Prelude.{ℕ, suc, ◌==◌, Bool as Test, true, false, ◌&&◌, if◌then◌else◌, List, [], ◌∷◌, Option, Some, None}
use Rattle.srmt_base.specs.declared.ty.Ty.{Ty}
use Rattle.srmt_base.specs.declared.ty.Ty.TheVariants.{Int, Char}
use Rattle.srmt_base.specs.declared.op.Op.{Op}
use Rattle.srmt_base.specs.declared.op.Op.TheVariants.{Add, Sub, Mul, Div, Rem, Shl, Shr, And, Or, Xor, Lt, Gt, Le, Ge, Eq, Ne}
use Rattle.srmt_base.specs.Types.{ty_code}
use Rattle.srmt_base.specs.Arith.{is_comparison}
use Rattle.c_types.specs.declared.form.BinaryForm.{BinaryForm}
use Rattle.c_types.specs.declared.form.BinaryForm.TheVariants as form
use Rattle.c_types.specs.declared.form.ChoiceForm.{ChoiceForm}
use Rattle.c_types.specs.declared.form.ChoiceForm.TheVariants as choice_form
use Rattle.c_types.specs.declared.form.Conversion.{Conversion}
use Rattle.c_types.specs.declared.form.Conversion.TheVariants as to
use Rattle.c_types.specs.Types.{CType, void, integer, Qualified, same_type, is_array, is_void, is_integer, is_function, decayed, ty_of, array_of, unqualified, bytes_of}
use Rattle.c_types.specs.Conversions.{promoted}
use Rattle.c_types.specs.Rules.{Operand, binary_type, choice_type, element_of, is_modifiable}
use Rattle.c_typed.specs.Typed.{Place, place, static, pointed, element, Value, value, ValueNode, Values, no_values, first_value, constant, null, read, first_element, minus, complement, negation, arithmetic, sum, difference, comparison, choice, assignment, update, move, conversion, to_bool, requalified, discarded, sequence, putchar, getchar, exit, type_of, start_of, place_type}
use Rattle.c_typed.specs.Constants.{constant_of, is_zero}
use Rattle.typing_rules.specs.Known.{Predeclared, the_putchar, the_getchar, the_exit}

-- a function that an expression designates (C11 6.3.2.1p4): one with linkage, with whether it is `main`, a
-- predeclared one, or the one that a value points to
pub data Designated : Type 0 where
  entity : (number : ℕ) (is_main : Test) → Designated
  predeclared : Predeclared → Designated
  through : (pointer : Value) → Designated

-- what an expression is before an array or a function decays: an lvalue, a value, or a function designator with the
-- line of its first token and the function's type
pub data Term : Type 0 where
  object : (place : Place) → Term
  result : (value : Value) → Term
  designator : (line : ℕ) (of : Designated) (type : CType) → Term

-- the value of an operand, with the line of its first token as it is written, parentheses counted
pub record Written : Type 0 where
  pub first : ℕ
  pub value : Value

abbrev pub written_type : Written → CType
written_type w = type_of w.value

-- whether a value is a null pointer constant
abbrev pub operand_of : Value → Operand
operand_of v = record { type = type_of v; is_null = is_integer (type_of v) && is_zero (constant_of v) }

-- ---- values

abbrev pub number_value : ℕ → Ty → ℕ → Value
number_value line ty n = value line (integer ty) (constant n)

-- what a place holds, or where an array begins (C11 6.3.2.1p2, p3)
abbrev pub value_at : Place → Value
value_at (place line type node) =
    if is_array type.type then value line (decayed type.type) (first_element (place line type node))
    else value line type.type (read (place line type node))

-- an operand as an integer of a type
abbrev pub converted : Ty → Written → Value
converted ty w =
    if ty_code (ty_of (written_type w)) == ty_code ty then w.value else value w.first (integer ty) (conversion w.first w.value)

-- the integer promotions of an operand
abbrev pub promoted_value : Written → Value
promoted_value w = converted (promoted (ty_of (written_type w))) w

-- a pointer as one of another type
abbrev pub repointed : CType → Value → Value
repointed t v = if same_type (type_of v) t then v else value (start_of v) t (requalified v)

-- a null pointer constant as a pointer
abbrev pub null_of : CType → Value → Value
null_of t v = value (start_of v) t null

-- a conversion as by assignment
abbrev pub converted_by : Conversion → CType → Written → Value
converted_by (to.Integer from target) t w = converted target w
converted_by to.PointerToBool t w = value w.first t (to_bool w.first w.value)
converted_by to.Null t w = null_of t w.value
converted_by to.Pointer t w = repointed t w.value

-- ---- operators

abbrev pub is_difference : Op → Test
is_difference Sub = true
is_difference Add = false
is_difference Mul = false
is_difference Div = false
is_difference Rem = false
is_difference Shl = false
is_difference Shr = false
is_difference And = false
is_difference Or = false
is_difference Xor = false
is_difference Lt = false
is_difference Gt = false
is_difference Le = false
is_difference Ge = false
is_difference Eq = false
is_difference Ne = false

abbrev pub pointers_node : Op → ℕ → Value → Value → ValueNode
pointers_node op at a b = if is_comparison op then comparison op at a b else difference at a b

abbrev pub binary_node : Op → ℕ → BinaryForm → Written → Written → ValueNode
binary_node op at (form.Integers ty) a b = arithmetic op at (converted ty a) (converted ty b)
binary_node op at (form.Shift ty) a b = arithmetic op at (converted ty a) (promoted_value b)
binary_node op at form.PointerAndInteger a b = sum at (is_difference op) true a.value (promoted_value b)
binary_node op at form.IntegerAndPointer a b = sum at false false (promoted_value a) b.value
binary_node op at form.Pointers a b = pointers_node op at a.value b.value
binary_node op at form.PointerAndNull a b = pointers_node op at a.value (null_of (written_type a) b.value)
binary_node op at form.NullAndPointer a b = pointers_node op at (null_of (written_type b) a.value) b.value

abbrev pub binary_value : ℕ → Op → ℕ → BinaryForm → Written → Written → Value
binary_value line op at f a b = value line (binary_type op f (written_type a) (written_type b)) (binary_node op at f a b)

-- `! - ~ +` (C11 6.5.3.3)
abbrev pub negated_value : ℕ → Written → Value
negated_value line w =
    if is_integer (written_type w) then value line (integer Int) (negation (promoted_value w))
    else value line (integer Int) (negation w.value)

abbrev pub minus_value : ℕ → Ty → Written → Value
minus_value line ty w = value line (integer ty) (minus (converted ty w))

abbrev pub complement_value : ℕ → Ty → Written → Value
complement_value line ty w = value line (integer ty) (complement (converted ty w))

-- the branches of `?:`, each as one of the common type (C11 6.5.15p5, p6)
abbrev pub branch : ChoiceForm → CType → Written → Value
branch (choice_form.Integers ty) t w = converted ty w
branch choice_form.Voids t w = w.value
branch choice_form.Pointers t w = repointed t w.value
branch choice_form.PointerAndNull t w = w.value
branch choice_form.NullAndPointer t w = w.value

abbrev pub first_branch : ChoiceForm → CType → Written → Value
first_branch choice_form.NullAndPointer t w = null_of t w.value
first_branch f t w = branch f t w

abbrev pub second_branch : ChoiceForm → CType → Written → Value
second_branch choice_form.PointerAndNull t w = null_of t w.value
second_branch f t w = branch f t w

abbrev pub choice_value : ℕ → ChoiceForm → Value → Written → Written → Value
choice_value line f test a b =
    let t = choice_type f (written_type a) (written_type b) in value line t (choice test (first_branch f t a) (second_branch f t b))

-- `a[i]`, whose integer is promoted
abbrev pub element_place : ℕ → ℕ → BinaryForm → Written → Written → Place
element_place line at form.PointerAndInteger a b =
    place line (element_of (written_type a) (written_type b)) (element at true a.value (promoted_value b))
element_place line at f a b =
    place line (element_of (written_type a) (written_type b)) (element at false (promoted_value a) b.value)

-- ---- assignments

-- the left side of an assignment, or the operand of `++ --`: its old value, and its place if it is an lvalue
pub record Target : Type 0 where
  pub old : Value
  pub lvalue : Option Place

abbrev pub may_change : Target → Test
may_change target = may_change_at target.lvalue
  where
    may_change_at : Option Place → Test
    may_change_at None = false
    may_change_at (Some p) = is_modifiable (place_type p)

-- `p op= e`, `++p`, `p++` in a form: whether the value is the old one, the first line of p, the operator and its line
pub record Change : Type 0 where
  pub is_after : Test
  pub first : ℕ
  pub op : Op
  pub at : ℕ

abbrev pub move_node : Change → Place → Value → ValueNode
move_node c p by = move c.is_after p (is_difference c.op) c.at by

abbrev pub change_node : Change → BinaryForm → Place → Written → ValueNode
change_node c (form.Integers ty) p by = update c.is_after p c.first c.op c.at ty (converted ty by)
change_node c (form.Shift ty) p by = update c.is_after p c.first c.op c.at ty (promoted_value by)
change_node c form.PointerAndInteger p by = move_node c p (promoted_value by)
change_node c form.IntegerAndPointer p by = move_node c p by.value
change_node c form.Pointers p by = move_node c p by.value
change_node c form.PointerAndNull p by = move_node c p by.value
change_node c form.NullAndPointer p by = move_node c p by.value

abbrev pub changed_value : ℕ → Change → BinaryForm → Place → Written → Value
changed_value line c f p by = value line (place_type p).type (change_node c f p by)

abbrev pub assigned_value : ℕ → Conversion → Place → Written → Value
assigned_value line f p w = value line (place_type p).type (assignment p (converted_by f (place_type p).type w))

-- the 1 that `++` adds
abbrev pub one_value : ℕ → Written
one_value line = record { first = line; value = number_value line Int 1 }

-- ---- casts and calls

abbrev pub cast_value : ℕ → CType → Written → Value
cast_value line t w = if is_void t then value line void (discarded w.value) else value line t (conversion w.first w.value)

abbrev pub sizeof_value : ℕ → CType → CType → Value
sizeof_value line type of = value line type (constant (bytes_of of))

abbrev pub first_argument : ℕ → Values → Value
first_argument line no_values = number_value line Int 0
first_argument line (first_value v rest) = v

-- a call of a predeclared function
abbrev pub predeclared_node : Predeclared → ℕ → Values → ValueNode
predeclared_node the_putchar at vs = putchar at (first_argument at vs)
predeclared_node the_getchar at vs = getchar at
predeclared_node the_exit at vs = exit at (first_argument at vs)

-- a text as an array of `char`, with its final 0 (C11 6.4.5p6)
abbrev pub text_type : ℕ → Qualified
text_type length = unqualified (array_of (unqualified (integer Char)) (Some (suc length)))

abbrev pub values_of : List Written → Values
values_of [] = no_values
values_of (w ∷ ws) = first_value w.value (values_of ws)

-- operands whose values are dropped, and the last, whose value it is (C11 6.5.17)
abbrev pub sequence_of : ℕ → List Written → Written → Value
sequence_of line dropped last = value line (written_type last) (sequence (values_of dropped) last.value)

-- ---- names, `*` and assignments

-- what the name of an entity is: a function designator or an object
abbrev pub linked_term : ℕ → ℕ → Qualified → Test → Term
linked_term line n type main = linked_as (is_function type.type)
  where
    linked_as : Test → Term
    linked_as true = designator line (entity n main) type.type
    linked_as false = object (place line type (static n))

-- what `*` gives: a function designator or an object
abbrev pub pointed_term : ℕ → Value → Qualified → Term
pointed_term line v to = pointed_as (is_function to.type)
  where
    pointed_as : Test → Term
    pointed_as true = designator line (through v) to.type
    pointed_as false = object (place line to (pointed v))

-- a change by an operator
abbrev pub change_by : Test → ℕ → Op → ℕ → Change
change_by is_after first op where_to = record { is_after = is_after; first = first; op = op; at = where_to }
