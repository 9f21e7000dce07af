-- The constraints on the types of operands (C11 6.5), with what they make of them. Each says which cases there are, in
-- no order.
use Rattle.std.specs.Prelude.{◌≡◌, ◌⊎◌, Bool as Test, IsTrue}
use Rattle.srmt_base.specs.declared.ty.Ty.{Ty}
use Rattle.srmt_base.specs.declared.ty.Ty.TheVariants.{Bool, UInt}
use Rattle.srmt_base.specs.declared.op.Op.{Op}
use Rattle.srmt_base.specs.declared.op.Op.TheVariants.{Add, Sub, Mul, Div, Rem, Shl, Shr, And, Or, Xor, Lt, Gt, Le, Ge, Eq, Ne}
use Rattle.c_types.specs.declared.form.BinaryForm.{BinaryForm}
use Rattle.c_types.specs.declared.form.BinaryForm.TheVariants as form
use Rattle.c_types.specs.declared.form.ChoiceForm.{ChoiceForm}
use Rattle.c_types.specs.declared.form.ChoiceForm.TheVariants as choice
use Rattle.c_types.specs.declared.form.Conversion.{Conversion}
use Rattle.c_types.specs.declared.form.Conversion.TheVariants as to
use Rattle.c_types.specs.Types.{CType, void, integer, Qualified, has_each, is_void, is_integer, is_pointer, is_scalar, is_complete, ty_of, target_of, is_object_pointer, is_complete_pointer, is_function_pointer, point_to_one}
use Rattle.c_types.specs.Conversions.{promoted, usual}
use Rattle.c_types.specs.Rules.{Operand}

-- ---- operators on integers

-- `+ - ~` before an operand (C11 6.5.3.3p1, p2, p3, p4)
abbrev pub Promotes : CType → Ty → Type 0
Promotes t ty = IsTrue (is_integer t) × (ty ≡ promoted (ty_of t))

-- what is compared with 0 (C11 6.5.3.3p1, 6.5.13p2, 6.5.14p2, 6.5.15p2, 6.8.4.1p1, 6.8.5p2)
abbrev pub IsTested : CType → CType → Type 0
IsTested t u = IsTrue (is_scalar t) × (u ≡ t)

-- `* / % & ^ |` (C11 6.5.5p2, p3, 6.5.10p2, p3, 6.5.11p2, p3, 6.5.12p2, p3)
abbrev pub Combines : CType → CType → BinaryForm → Type 0
Combines a b f = IsTrue (is_integer a) × IsTrue (is_integer b) × (f ≡ form.Integers (usual (ty_of a) (ty_of b)))

-- `<< >>` (C11 6.5.7p2, p3)
abbrev pub Shifts : CType → CType → BinaryForm → Type 0
Shifts a b f = IsTrue (is_integer a) × IsTrue (is_integer b) × (f ≡ form.Shift (promoted (ty_of a)))

-- a pointer to a complete object type and an integer (C11 6.5.6p2, p3)
abbrev pub Moves : CType → CType → BinaryForm → Type 0
Moves a b f = IsTrue (is_complete_pointer a) × IsTrue (is_integer b) × (f ≡ form.PointerAndInteger)

-- `+= -= ++ --` (C11 6.5.16.2p1, 6.5.2.4p1, 6.5.3.1p1)
abbrev pub Steps : CType → CType → BinaryForm → Type 0
Steps a b f = Combines a b f ⊎ Moves a b f

-- an integer and a pointer to a complete object type
abbrev pub IsMovedBy : CType → CType → BinaryForm → Type 0
IsMovedBy a b f = IsTrue (is_integer a) × IsTrue (is_complete_pointer b) × (f ≡ form.IntegerAndPointer)

-- `+` (C11 6.5.6p2)
abbrev pub Adds : CType → CType → BinaryForm → Type 0
Adds a b f = IsMovedBy a b f ⊎ Steps a b f

-- pointers to one complete object type
abbrev pub AreApart : CType → CType → BinaryForm → Type 0
AreApart a b f = IsTrue (is_complete_pointer a) × IsTrue (is_complete_pointer b) × IsTrue (point_to_one a b) × (f ≡ form.Pointers)

-- `-` (C11 6.5.6p3)
abbrev pub Subtracts : CType → CType → BinaryForm → Type 0
Subtracts a b f = AreApart a b f ⊎ Steps a b f

-- ---- comparisons

-- `< > <= >=` (C11 6.5.8p2): two integers, or pointers to objects of one type
abbrev pub Relates : CType → CType → BinaryForm → Type 0
Relates a b f = Combines a b f ⊎ (IsTrue (is_object_pointer a) × IsTrue (point_to_one a b) × (f ≡ form.Pointers))

-- a pointer and a null pointer constant, in either order (C11 6.5.9p2)
abbrev pub IsBesideNull : Operand → Operand → BinaryForm → Type 0
IsBesideNull a b f = IsTrue (is_pointer a.type) × IsTrue b.is_null × (f ≡ form.PointerAndNull)

abbrev pub IsNullBeside : Operand → Operand → BinaryForm → Type 0
IsNullBeside a b f = IsTrue a.is_null × IsTrue (is_pointer b.type) × (f ≡ form.NullAndPointer)

-- `== !=` (C11 6.5.9p2): two integers, pointers to one type, or a pointer and a null pointer constant
abbrev pub Equates : Operand → Operand → BinaryForm → Type 0
Equates a b f =
    Combines a.type b.type f ⊎ (IsTrue (point_to_one a.type b.type) × (f ≡ form.Pointers)) ⊎ IsBesideNull a b f ⊎ IsNullBeside a b f

-- ---- any operator between two operands

abbrev pub Operates : Op → Operand → Operand → BinaryForm → Type 0
Operates Add a b f = Adds a.type b.type f
Operates Sub a b f = Subtracts a.type b.type f
Operates Mul a b f = Combines a.type b.type f
Operates Div a b f = Combines a.type b.type f
Operates Rem a b f = Combines a.type b.type f
Operates Shl a b f = Shifts a.type b.type f
Operates Shr a b f = Shifts a.type b.type f
Operates And a b f = Combines a.type b.type f
Operates Or a b f = Combines a.type b.type f
Operates Xor a b f = Combines a.type b.type f
Operates Lt a b f = Relates a.type b.type f
Operates Gt a b f = Relates a.type b.type f
Operates Le a b f = Relates a.type b.type f
Operates Ge a b f = Relates a.type b.type f
Operates Eq a b f = Equates a b f
Operates Ne a b f = Equates a b f

-- ---- assignments

-- the operators of compound assignments, and `++ --` with an `int` on the right
abbrev pub Changes : Op → CType → CType → BinaryForm → Type 0
Changes Add a b f = Steps a b f
Changes Sub a b f = Steps a b f
Changes Mul a b f = Combines a b f
Changes Div a b f = Combines a b f
Changes Rem a b f = Combines a b f
Changes Shl a b f = Shifts a b f
Changes Shr a b f = Shifts a b f
Changes And a b f = Combines a b f
Changes Or a b f = Combines a b f
Changes Xor a b f = Combines a b f
Changes Lt a b f = ⊥
Changes Gt a b f = ⊥
Changes Le a b f = ⊥
Changes Ge a b f = ⊥
Changes Eq a b f = ⊥
Changes Ne a b f = ⊥

-- the left side is a modifiable lvalue (C11 6.5.16p2), and the operator takes the types
abbrev pub Updates : Op → Test → CType → CType → BinaryForm → Type 0
Updates op may_change a b f = IsTrue may_change × Changes op a b f

-- a conversion as by assignment (C11 6.5.16.1p1): an integer to an integer type, a pointer to `_Bool`, a null pointer
-- constant to a pointer, or a pointer to one to the same type with no qualifier lost
abbrev pub BecomesInteger : CType → Operand → Conversion → Type 0
BecomesInteger target from f =
    IsTrue (is_integer target) × IsTrue (is_integer from.type) × (f ≡ to.Integer (ty_of from.type) (ty_of target))

abbrev pub BecomesBool : CType → Operand → Conversion → Type 0
BecomesBool target from f = (target ≡ integer Bool) × IsTrue (is_pointer from.type) × (f ≡ to.PointerToBool)

abbrev pub BecomesNull : CType → Operand → Conversion → Type 0
BecomesNull target from f = IsTrue (is_pointer target) × IsTrue from.is_null × (f ≡ to.Null)

abbrev pub BecomesPointer : CType → Operand → Conversion → Type 0
BecomesPointer target from f =
    IsTrue (is_pointer target) × IsTrue (point_to_one from.type target) × IsTrue
    (has_each (target_of from.type).qualifiers (target_of target).qualifiers) × (f ≡ to.Pointer)

abbrev pub Converts : CType → Operand → Conversion → Type 0
Converts target from f =
    BecomesInteger target from f ⊎ BecomesBool target from f ⊎ BecomesNull target from f ⊎ BecomesPointer target from f

-- `l = e` where l is a modifiable lvalue (C11 6.5.16p2)
abbrev pub Assigns : Test → CType → Operand → Conversion → Type 0
Assigns may_change target from f = IsTrue may_change × Converts target from f

-- ---- the conditional operator (C11 6.5.15p3)

abbrev pub Branches : Operand → Operand → ChoiceForm → Type 0
Branches a b f =
    (IsTrue (is_integer a.type) × IsTrue (is_integer b.type) × (f ≡ choice.Integers (usual (ty_of a.type) (ty_of b.type))))
    ⊎ (IsTrue (is_void a.type) × IsTrue (is_void b.type) × (f ≡ choice.Voids))
    ⊎ (IsTrue (point_to_one a.type b.type) × (f ≡ choice.Pointers))
    ⊎ (IsTrue (is_pointer a.type) × IsTrue b.is_null × (f ≡ choice.PointerAndNull))
    ⊎ (IsTrue a.is_null × IsTrue (is_pointer b.type) × (f ≡ choice.NullAndPointer))

abbrev pub Chooses : CType → Operand → Operand → ChoiceForm → Type 0
Chooses test a b f = IsTrue (is_scalar test) × Branches a b f

-- ---- places, calls, casts, sizes

-- `*` (C11 6.5.3.2p2, p4)
abbrev pub PointsTo : CType → Qualified → Type 0
PointsTo t of = IsTrue (is_pointer t) × (of ≡ target_of t)

-- `a[i]` (C11 6.5.2.1p1)
abbrev pub Indexes : CType → CType → BinaryForm → Type 0
Indexes a b f = Moves a b f ⊎ IsMovedBy a b f

-- what is called is a pointer to a function (C11 6.5.2.2p1)
abbrev pub Calls : CType → CType → Type 0
Calls t of = IsTrue (is_function_pointer t) × (of ≡ (target_of t).type)

-- a cast to `void`, or of an integer to an integer type (C11 6.5.4p2)
abbrev pub CastsTo : CType → CType → CType → Type 0
CastsTo target from t = (IsTrue (is_void target) × (t ≡ void)) ⊎ (IsTrue (is_integer target) × IsTrue (is_integer from) × (t ≡ target))

-- `sizeof` of a complete object type, an `unsigned int` (C11 6.5.3.4p1, p5)
abbrev pub HasSize : CType → CType → Type 0
HasSize t u = IsTrue (is_complete t) × (u ≡ integer UInt)
