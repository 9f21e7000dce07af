-- The rules on types of each operator (C11 6.5), with the number of the rule that is broken. Where several are, it is
-- the least.
--
-- A value of type void can stand where nothing is made of it. Rule 14 is that one is used. Beside it such an operand
-- breaks no other rule, but rule 5 where a value is tested, and rule 6 beside a branch with a value.
use Rattle.std.specs.Prelude.{ℕ, ◌==◌, Bool as Test, true, false, not, ◌&&◌, ◌||◌, if◌then◌else◌, nat_le, Result, Ok, Err, ⊤}
use Rattle.srmt_base.specs.declared.ty.Ty.{Ty}
use Rattle.srmt_base.specs.declared.ty.Ty.TheVariants.{Bool, Int, UInt}
use Rattle.srmt_base.specs.declared.op.Op.{Op}
use Rattle.srmt_base.specs.declared.op.Op.TheVariants.{Add, Sub, Mul, Div, Rem, Shl, Shr, And, Or, Xor, Lt, Gt, Le, Ge, Eq, Ne}
use Rattle.srmt_base.specs.Types.{ty_code, IsPromoted}
use Rattle.srmt_base.specs.Arith.{is_comparison}
use Rattle.c_types.specs.declared.form.BinaryForm.{BinaryForm}
use Rattle.c_types.specs.declared.form.BinaryForm.TheVariants as form
use Rattle.c_types.specs.declared.form.ChoiceForm.{ChoiceForm}
use Rattle.c_types.specs.declared.form.ChoiceForm.TheVariants as choice
use Rattle.c_types.specs.declared.form.Conversion.{Conversion}
use Rattle.c_types.specs.declared.form.Conversion.TheVariants as to
use Rattle.c_types.specs.Types.{CType, void, integer, pointer, Qualified, with_both, has_each, is_void, is_integer, is_pointer, is_scalar, is_complete, ty_of, target_of, is_object_pointer, is_complete_pointer, is_function_pointer, point_to_one}
use Rattle.c_types.specs.Conversions.{promoted, usual}

-- what a rule allows, or the number of the rule that is broken
abbrev pub Ruled : Type 0 → Type 0
Ruled A = Result A ℕ

-- an operand: the type of its value after decay, and whether it is a null pointer constant (C11 6.3.2.3p3), which is
-- an integer
pub record Operand : Type 0 where
  pub type : CType
  pub is_null : Test

-- a rule beside others at one operator: the least that is broken
abbrev pub beside : {A : Type 0} → Test → ℕ → Ruled A → Ruled A
beside true rule r = r
beside false rule (Ok a) = Err rule
beside false rule (Err other) = if nat_le other rule then Err other else Err rule

-- two operands that no case of a rule allows: the rule, or rule 14 where one is void
abbrev pub refused_rule : ℕ → CType → CType → ℕ
refused_rule rule a b = if is_void a || is_void b then 14 else rule

abbrev pub refused : {A : Type 0} → ℕ → CType → CType → Ruled A
refused rule a b = Err (refused_rule rule a b)

-- a value that is there, and is no integer
abbrev pub is_other : CType → Test
is_other t = not (is_integer t || is_void t)

-- where integers are computed on, it is at a promoted type
abbrev pub IsPromotedForm : BinaryForm → Type 0
IsPromotedForm (form.Integers ty) = IsPromoted ty
IsPromotedForm (form.Shift ty) = IsPromoted ty
IsPromotedForm form.PointerAndInteger = ⊤
IsPromotedForm form.IntegerAndPointer = ⊤
IsPromotedForm form.Pointers = ⊤
IsPromotedForm form.PointerAndNull = ⊤
IsPromotedForm form.NullAndPointer = ⊤

-- ---- operators on integers

-- `+ - ~` before an operand (C11 6.5.3.3p1): the promoted type
abbrev pub unary_type : CType → Ruled Ty
unary_type t = if is_integer t then Ok (promoted (ty_of t)) else refused 1 t t

-- a condition, or an operand of `! && ||` (C11 6.5.3.3p1, 6.5.13p2, 6.5.14p2, 6.5.15p2, 6.8.4.1p1, 6.8.5p2)
abbrev pub tested_type : CType → Ruled CType
tested_type t = if is_scalar t then Ok t else Err 5

-- `* / %` and `& ^ |` (C11 6.5.5p2, 6.5.10p2, 6.5.11p2, 6.5.12p2)
abbrev pub arithmetic_form : CType → CType → Ruled BinaryForm
arithmetic_form a b =
    if is_integer a && is_integer b then Ok (form.Integers (usual (ty_of a) (ty_of b)))
    else if is_other a || is_other b then Err 1
    else Err 14

-- `<< >>` (C11 6.5.7p2)
abbrev pub shift_form : CType → CType → Ruled BinaryForm
shift_form a b =
    if is_integer a && is_integer b then Ok (form.Shift (promoted (ty_of a)))
    else if is_other a || is_other b then Err 1
    else Err 14

-- ---- sums

-- a pointer to a complete object type, and an integer on the right: `+ - += -= ++ --` (C11 6.5.6p2, p3, 6.5.16.2p1,
-- 6.5.2.4p1, 6.5.3.1p1)
abbrev pub step_form : CType → CType → Ruled BinaryForm
step_form a b =
    if is_integer a && is_integer b then Ok (form.Integers (usual (ty_of a) (ty_of b)))
    else if is_complete_pointer a && is_integer b then Ok form.PointerAndInteger
    else refused 2 a b

-- `+` (C11 6.5.6p2)
abbrev pub sum_form : CType → CType → Ruled BinaryForm
sum_form a b = if is_integer a && is_complete_pointer b then Ok form.IntegerAndPointer else step_form a b

-- `-` (C11 6.5.6p3)
abbrev pub difference_form : CType → CType → Ruled BinaryForm
difference_form a b =
    if is_complete_pointer a && is_complete_pointer b && point_to_one a b then Ok form.Pointers else step_form a b

-- ---- comparisons

-- `< > <= >=` (C11 6.5.8p2): pointers to objects of one type, perhaps to arrays without a length
abbrev pub relation_form : CType → CType → Ruled BinaryForm
relation_form a b =
    if is_integer a && is_integer b then Ok (form.Integers (usual (ty_of a) (ty_of b)))
    else if is_object_pointer a && point_to_one a b then Ok form.Pointers
    else refused 3 a b

abbrev pub null_form : Operand → Operand → Ruled BinaryForm
null_form a b =
    if is_pointer a.type && b.is_null then Ok form.PointerAndNull
    else if a.is_null && is_pointer b.type then Ok form.NullAndPointer
    else refused 4 a.type b.type

-- `== !=` (C11 6.5.9p2)
abbrev pub equality_form : Operand → Operand → Ruled BinaryForm
equality_form a b =
    if is_integer a.type && is_integer b.type then Ok (form.Integers (usual (ty_of a.type) (ty_of b.type)))
    else if point_to_one a.type b.type then Ok form.Pointers
    else null_form a b

-- ---- any operator between two operands

-- the form of an operator on two operands, or the rule that is broken
abbrev pub binary_form : Op → Operand → Operand → Ruled BinaryForm
binary_form Add a b = sum_form a.type b.type
binary_form Sub a b = difference_form a.type b.type
binary_form Mul a b = arithmetic_form a.type b.type
binary_form Div a b = arithmetic_form a.type b.type
binary_form Rem a b = arithmetic_form a.type b.type
binary_form Shl a b = shift_form a.type b.type
binary_form Shr a b = shift_form a.type b.type
binary_form And a b = arithmetic_form a.type b.type
binary_form Or a b = arithmetic_form a.type b.type
binary_form Xor a b = arithmetic_form a.type b.type
binary_form Lt a b = relation_form a.type b.type
binary_form Gt a b = relation_form a.type b.type
binary_form Le a b = relation_form a.type b.type
binary_form Ge a b = relation_form a.type b.type
binary_form Eq a b = equality_form a b
binary_form Ne a b = equality_form a b

-- the type of what an operator computes in this form
abbrev pub computed_type : BinaryForm → CType → CType → CType
computed_type (form.Integers ty) a b = integer ty
computed_type (form.Shift ty) a b = integer ty
computed_type form.PointerAndInteger a b = a
computed_type form.IntegerAndPointer a b = b
computed_type form.Pointers a b = integer Int
computed_type form.PointerAndNull a b = integer Int
computed_type form.NullAndPointer a b = integer Int

-- the type of the result; a comparison gives an `int` (C11 6.5.8p6, 6.5.9p3)
abbrev pub binary_type : Op → BinaryForm → CType → CType → CType
binary_type op f a b = if is_comparison op then integer Int else computed_type f a b

-- ---- assignments

-- a modifiable lvalue has a scalar type that is not const (C11 6.3.2.1p1)
abbrev pub is_modifiable : Qualified → Test
is_modifiable place = is_scalar place.type && not place.qualifiers.is_const

-- the operator of a compound assignment, and `++ --` with an `int` on the right (C11 6.5.16.2p1, p2)
abbrev pub compound_form : Op → CType → CType → Ruled BinaryForm
compound_form Add a b = step_form a b
compound_form Sub a b = step_form a b
compound_form Mul a b = arithmetic_form a b
compound_form Div a b = arithmetic_form a b
compound_form Rem a b = arithmetic_form a b
compound_form Shl a b = shift_form a b
compound_form Shr a b = shift_form a b
compound_form And a b = arithmetic_form a b
compound_form Or a b = arithmetic_form a b
compound_form Xor a b = arithmetic_form a b
compound_form Lt a b = Err 1
compound_form Gt a b = Err 1
compound_form Le a b = Err 1
compound_form Ge a b = Err 1
compound_form Eq a b = Err 1
compound_form Ne a b = Err 1

-- `l op= e`, `++l`, `l--` where l is a modifiable lvalue or is none
abbrev pub update_form : Op → Test → CType → CType → Ruled BinaryForm
update_form op may_change a b = beside may_change 7 (compound_form op a b)

-- a conversion as by assignment to an integer type (C11 6.5.16.1p1)
abbrev pub integer_conversion : CType → Operand → Ruled Conversion
integer_conversion target from =
    if is_integer from.type then Ok (to.Integer (ty_of from.type) (ty_of target))
    else if is_pointer from.type && ty_code (ty_of target) == ty_code Bool then Ok to.PointerToBool
    else refused 8 from.type from.type

-- what a pointer points to has each qualifier of what another one points to
abbrev pub loses_none : CType → CType → Test
loses_none from target = has_each (target_of from).qualifiers (target_of target).qualifiers

-- a conversion as by assignment to a pointer (C11 6.5.16.1p1)
abbrev pub pointer_conversion : CType → Operand → Ruled Conversion
pointer_conversion target from =
    if from.is_null then Ok to.Null
    else if point_to_one from.type target && loses_none from.type target then Ok to.Pointer
    else refused 8 from.type from.type

-- a conversion as by assignment (C11 6.5.16.1p1)
abbrev pub conversion_form : CType → Operand → Ruled Conversion
conversion_form target from =
    if is_integer target then integer_conversion target from
    else if is_pointer target then pointer_conversion target from
    else refused 8 from.type from.type

-- `l = e` where l is a modifiable lvalue of the type, or is none
abbrev pub assignment_form : Test → CType → Operand → Ruled Conversion
assignment_form may_change target from = beside may_change 7 (conversion_form target from)

-- ---- the conditional operator (C11 6.5.15p3)

abbrev pub null_choice : Operand → Operand → Ruled ChoiceForm
null_choice a b =
    if is_pointer a.type && b.is_null then Ok choice.PointerAndNull
    else if a.is_null && is_pointer b.type then Ok choice.NullAndPointer
    else Err 6

abbrev pub branches_form : Operand → Operand → Ruled ChoiceForm
branches_form a b =
    if is_integer a.type && is_integer b.type then Ok (choice.Integers (usual (ty_of a.type) (ty_of b.type)))
    else if is_void a.type && is_void b.type then Ok choice.Voids
    else if point_to_one a.type b.type then Ok choice.Pointers
    else null_choice a b

-- the condition and both branches
abbrev pub choice_form : CType → Operand → Operand → Ruled ChoiceForm
choice_form test a b = beside (is_scalar test) 5 (branches_form a b)

-- the type of the result; a pointer has the qualifiers of both (C11 6.5.15p5, p6)
abbrev pub choice_type : ChoiceForm → CType → CType → CType
choice_type (choice.Integers ty) a b = integer ty
choice_type choice.Voids a b = void
choice_type choice.Pointers a b = pointer (with_both (target_of a).qualifiers (target_of b).qualifiers) (target_of a).type
choice_type choice.PointerAndNull a b = a
choice_type choice.NullAndPointer a b = b

-- ---- places, calls, casts, sizes

-- `*` (C11 6.5.3.2p2): what the operand points to, an object or a function
abbrev pub indirection_type : CType → Ruled Qualified
indirection_type t = if is_pointer t then Ok (target_of t) else refused 9 t t

-- an index (C11 6.5.2.1p1): one pointer to a complete object type and one integer, in either order
abbrev pub index_form : CType → CType → Ruled BinaryForm
index_form a b =
    if is_complete_pointer a && is_integer b then Ok form.PointerAndInteger
    else if is_integer a && is_complete_pointer b then Ok form.IntegerAndPointer
    else refused 9 a b

-- the element that an index names
abbrev pub element_of : CType → CType → Qualified
element_of a b = if is_pointer a then target_of a else target_of b

-- what is called, after decay (C11 6.5.2.2p1): the function's type
abbrev pub callee_type : CType → Ruled CType
callee_type t = if is_function_pointer t then Ok (target_of t).type else refused 10 t t

-- a cast to a type (C11 6.5.4p2), in this subset to an integer type from an integer, or to void from anything; its
-- type is that to which it casts
abbrev pub cast_type : CType → CType → Ruled CType
cast_type target from =
    if is_void target then Ok target
    else if is_integer target && is_integer from then Ok target
    else if is_integer target then refused 12 from from
    else Err 12

-- `sizeof` (C11 6.5.3.4p1)
abbrev pub sizeof_type : CType → Ruled CType
sizeof_type t = if is_complete t then Ok (integer UInt) else Err 13
