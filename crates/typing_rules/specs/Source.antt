-- The syntax trees as plain data: expressions, and the declarators and names of types that may stand in them.
--
-- A declarator is flat: its name, and what it derives in the order in which it is read aloud, from the name outward.
-- In `*f(int)[3]` this is a function, an array, a pointer. That is also the order in which its brackets and
-- parentheses stand in the source.
use Rattle.std.specs.Prelude.{ℕ, List, Option}
use Rattle.srmt_base.specs.declared.ty.Ty.{Ty}
use Rattle.srmt_base.specs.declared.op.Op.{Op}
use Rattle.c_types.specs.declared.qualifiers.Qualifiers.{Qualifiers}
use Rattle.c_tree.specs.declared.operator.PrefixOp.{PrefixOp}
use Rattle.c_tree.specs.declared.operator.PostfixOp.{PostfixOp}
use Rattle.c_tree.specs.declared.specifier.SpecifierWord.{SpecifierWord}

abbrev pub Bytes : Type 0
Bytes = List ℕ

-- a declared name with its line
pub record Named : Type 0 where
  pub line : ℕ
  pub bytes : Bytes

-- the words of a declaration's specifiers, with the line of the first
pub record Specifiers : Type 0 where
  pub line : ℕ
  pub words : List SpecifierWord

mutual
  -- an expression with the line of its first token (C11 6.5)
  pub data Expr : Type 0 where
    at : (line : ℕ) (node : Node) → Expr

  pub data Node : Type 0 where
    name : (bytes : Bytes) → Node
    number : (type : Ty) (value : ℕ) → Node
    character : (value : ℕ) → Node
    text : (bytes : Bytes) → Node
    parenthesized : (inner : Expr) → Node
    index : (base : Expr) (line : ℕ) (place : Expr) → Node
    call : (callee : Expr) (line : ℕ) (arguments : Exprs) → Node
    prefix : (op : PrefixOp) (operand : Expr) → Node
    postfix : (op : PostfixOp) (line : ℕ) (operand : Expr) → Node
    sizeof_expr : (operand : Expr) → Node
    sizeof_type : (type : TypeName) → Node
    cast : (type : TypeName) (operand : Expr) → Node
    binary : (op : Op) (line : ℕ) (left right : Expr) → Node
    conjunction : (line : ℕ) (left right : Expr) → Node
    disjunction : (line : ℕ) (left right : Expr) → Node
    choice : (line : ℕ) (test first second : Expr) → Node
    assignment : (line : ℕ) (left right : Expr) → Node
    compound : (op : Op) (line : ℕ) (left right : Expr) → Node
    comma : (dropped : Exprs) (last : Expr) → Node

  pub data Exprs : Type 0 where
    no_exprs : Exprs
    first_expr : (first : Expr) (rest : Exprs) → Exprs

  -- C11 6.7.7
  pub data TypeName : Type 0 where
    type_name : (specifiers : Specifiers) (declarator : Declarator) → TypeName

  -- C11 6.7.6, 6.7.7: the line of its first token, or of the specifiers before it where it has none
  pub data Declarator : Type 0 where
    declarator : (line : ℕ) (name : Option Named) (parts : Parts) → Declarator

  pub data Parts : Type 0 where
    no_parts : Parts
    pointer_part : (qualifiers : Qualifiers) (rest : Parts) → Parts
    array_part : (line : ℕ) (length : Expr) (rest : Parts) → Parts
    unsized_part : (line : ℕ) (rest : Parts) → Parts
    function_part : (line : ℕ) (parameters : Parameters) (rest : Parts) → Parts

  pub data Parameters : Type 0 where
    no_parameters : Parameters
    first_parameter : (specifiers : Specifiers) (declarator : Declarator) (rest : Parameters) → Parameters

-- the line of an expression's first token
abbrev pub line_of : Expr → ℕ
line_of (at line node) = line
