-- The typed tree (C11 6.5, 6.8): what each construct of a program is once its types are known.
--
-- A place is an lvalue (C11 6.3.2.1p1), a value all else. Each has the line of its first token, parentheses not
-- counted, and its type; a value's type has no qualifiers. `at` is the line of the operator, bracket or word of which
-- an instruction may tell. Locals stand by their number in the table of the function, objects and functions with
-- linkage by their number among all of the program, texts by their number in their file.
use Rattle.std.specs.Prelude.{ℕ, Bool as Test}
use Rattle.srmt_base.specs.declared.ty.Ty.{Ty}
use Rattle.srmt_base.specs.declared.op.Op.{Op}
use Rattle.c_types.specs.Types.{CType, Qualified}

mutual
  pub data Place : Type 0 where
    place : (line : ℕ) (type : Qualified) (node : PlaceNode) → Place

  pub data PlaceNode : Type 0 where
    local : (number : ℕ) → PlaceNode
    static : (entity : ℕ) → PlaceNode
    text : (number : ℕ) → PlaceNode
    -- `*p` (C11 6.5.3.2)
    pointed : (pointer : Value) → PlaceNode
    -- `a[i]` as written: the pointer first, or the integer (C11 6.5.2.1)
    element : (at : ℕ) (pointer_first : Test) (left right : Value) → PlaceNode

  pub data Value : Type 0 where
    value : (line : ℕ) (type : CType) (node : ValueNode) → Value

  pub data ValueNode : Type 0 where
    -- a constant or `sizeof`, modulo 2^32
    constant : (number : ℕ) → ValueNode
    -- a null pointer constant, converted to a pointer (C11 6.3.2.3p3)
    null : ValueNode
    -- what a place holds, an array's place, `&` of a place, a function (C11 6.3.2.1, 6.5.3.2)
    read : (from : Place) → ValueNode
    first_element : (array : Place) → ValueNode
    address : (of : Place) → ValueNode
    function : (entity : ℕ) → ValueNode
    -- `- ~ !` of an operand of a promoted type, and `!` of a pointer (C11 6.5.3.3)
    minus : (operand : Value) → ValueNode
    complement : (operand : Value) → ValueNode
    negation : (operand : Value) → ValueNode
    -- an operator on integers, at the type of its left operand (C11 6.5.5 to 6.5.12)
    arithmetic : (op : Op) (at : ℕ) (left right : Value) → ValueNode
    -- a pointer and an integer, the pointer or the integer first, added or subtracted (C11 6.5.6p8)
    sum : (at : ℕ) (is_less pointer_first : Test) (left right : Value) → ValueNode
    -- two pointers subtracted or compared (C11 6.5.6p9, 6.5.8p5, 6.5.9p6)
    difference : (at : ℕ) (left right : Value) → ValueNode
    comparison : (op : Op) (at : ℕ) (left right : Value) → ValueNode
    -- C11 6.5.13 to 6.5.17
    conjunction : (left right : Value) → ValueNode
    disjunction : (left right : Value) → ValueNode
    choice : (test first second : Value) → ValueNode
    sequence : (dropped : Values) (last : Value) → ValueNode
    assignment : (to : Place) (from : Value) → ValueNode
    -- `l op= e`, `++l`, `l++` on integers: the operator's type, and the first line of l, parentheses counted
    update : (is_after : Test) (to : Place) (first : ℕ) (op : Op) (at : ℕ) (type : Ty) (by : Value) → ValueNode
    -- the same on a pointer
    move : (is_after : Test) (to : Place) (is_less : Test) (at : ℕ) (by : Value) → ValueNode
    -- an integer converted to an integer type, and a pointer to `_Bool` (C11 6.3.1, 6.5.4): the first line of the
    -- operand, parentheses counted
    conversion : (first : ℕ) (operand : Value) → ValueNode
    to_bool : (first : ℕ) (operand : Value) → ValueNode
    -- a pointer to the same type with other qualifiers (C11 6.3.2.3p2)
    requalified : (operand : Value) → ValueNode
    -- a value that is not used (C11 6.3.2.2)
    discarded : (operand : Value) → ValueNode
    -- C11 6.5.2.2: the line of the `(`
    call : (at entity : ℕ) (arguments : Values) → ValueNode
    call_through : (at : ℕ) (callee : Value) (arguments : Values) → ValueNode
    -- C11 7.21.7.8, 7.21.7.6, 7.22.4.4
    putchar : (at : ℕ) (argument : Value) → ValueNode
    getchar : (at : ℕ) → ValueNode
    exit : (at : ℕ) (argument : Value) → ValueNode

  pub data Values : Type 0 where
    no_values : Values
    first_value : (first : Value) (rest : Values) → Values

abbrev pub type_of : Value → CType
type_of (value line type node) = type

-- the line of its first token
abbrev pub start_of : Value → ℕ
start_of (value line type node) = line

abbrev pub place_type : Place → Qualified
place_type (place line type node) = type
