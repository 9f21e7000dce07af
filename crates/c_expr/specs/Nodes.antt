-- The nodes of the tree, and what the tokens that have bytes stand for.
use Rattle.std.specs.Prelude.{ℕ, ◌-◌, Bool, true, false, List, [], ◌∷◌, ◌++◌, take, drop, Option, Some, None}
use Rattle.std.specs.Option.{unwrap_or}
use Rattle.c_lexer.specs.declared.token.Token.{Token}
use Rattle.c_lexer.specs.declared.token.TokenKind.{TokenKind}
use Rattle.c_lexer.specs.declared.token.TokenKind.TheVariants.{Number, Character}
use Rattle.c_lexer.specs.Tokens.{text_bytes}
use Rattle.c_tree.specs.declared.operator.BinaryOp.{BinaryOp}
use Rattle.c_tree.specs.declared.operator.CompoundOp.{CompoundOp}
use Rattle.c_tree.specs.declared.operator.PrefixOp.{PrefixOp}
use Rattle.c_tree.specs.declared.operator.PostfixOp.{PostfixOp}
use Rattle.c_tree.specs.declared.specifier.SpecifierWord.{SpecifierWord}
use Rattle.c_tree.specs.declared.specifier.Specifier.{Specifier}
use Rattle.c_tree.specs.declared.specifier.Pointer.{Pointer}
use Rattle.c_tree.specs.declared.expression.Expr.{Expr}
use Rattle.c_tree.specs.declared.expression.ExprNode.{ExprNode, ExprNode-F, out-ExprNode}
use Rattle.c_tree.specs.declared.expression.ExprNode.TheVariants as e
use Rattle.c_tree.specs.declared.expression.TypeName.{TypeName, roll-TypeName}
use Rattle.c_tree.specs.declared.expression.Declarator.{Declarator}
use Rattle.c_tree.specs.declared.expression.Direct.{Direct}
use Rattle.c_tree.specs.declared.expression.Direct.TheVariants as d
use Rattle.c_tree.specs.declared.expression.Suffix.{Suffix}
use Rattle.c_tree.specs.declared.expression.Parameter.{Parameter, roll-Parameter}

abbrev pub Bytes : Type 0
Bytes = List ℕ

-- ---- tokens that have bytes

-- the bytes of a token in its source
unfoldable pub spelling : Bytes → Token → Bytes
spelling src t = take (t.end - t.start) (drop t.start src)

-- the bytes of a text between its quotes, with the escapes read
unfoldable pub text_of : Bytes → Token → Bytes
text_of src t = unwrap_or (text_bytes src t) []

-- ---- expressions

-- an expression at a line
unfoldable pub at_line : ℕ → ExprNode → Expr
at_line line node = record { line = line; node = node }

-- the line of an expression's first token
unfoldable pub line_of : Expr → ℕ
line_of x = x.line

-- a number or a character constant with its value
abbrev pub constant_node : TokenKind → Option ExprNode
constant_node (Number ty value) = Some (e.Number ty value)
constant_node (Character value) = Some (e.Character value)
constant_node _ = None

abbrev pub name_node : Bytes → Token → Expr
name_node src t = at_line t.line (e.Name (spelling src t))

-- adjacent texts, of which these are the first token and the bytes of all
abbrev pub text_node : Token → Bytes → Expr
text_node t bytes = at_line t.line (e.Text bytes)

abbrev pub parenthesized_node : ℕ → Expr → Expr
parenthesized_node line x = at_line line (e.Parenthesized x)

abbrev pub index_node : ℕ → Expr → Expr → Expr
index_node line index left = at_line (line_of left) (e.Index left line index)

abbrev pub call_node : ℕ → List Expr → Expr → Expr
call_node line arguments left = at_line (line_of left) (e.Call left line arguments)

abbrev pub postfix_node : ℕ → PostfixOp → Expr → Expr
postfix_node line op left = at_line (line_of left) (e.Postfix left op line)

abbrev pub prefix_node : ℕ → PrefixOp → Expr → Expr
prefix_node line op x = at_line line (e.Prefix op x)

abbrev pub sizeof_expr_node : ℕ → Expr → Expr
sizeof_expr_node line x = at_line line (e.SizeofExpr x)

abbrev pub sizeof_type_node : ℕ → TypeName → Expr
sizeof_type_node line ty = at_line line (e.SizeofType ty)

abbrev pub cast_node : ℕ → TypeName → Expr → Expr
cast_node line ty x = at_line line (e.Cast ty x)

abbrev pub binary_node : Expr → ℕ → BinaryOp → Expr → Expr
binary_node left line op right = at_line (line_of left) (e.Binary left op line right)

abbrev pub conditional_node : Expr → ℕ → Expr → Expr → Expr
conditional_node x line first second = at_line (line_of x) (e.Conditional x line first second)

abbrev pub assign_node : Expr → ℕ → Option CompoundOp → Expr → Expr
assign_node left line op right = at_line (line_of left) (e.Assign left op line right)

-- the operands in front of the last one, and the last; or one operand alone
abbrev pub comma_node : List Expr × Expr → Expr
comma_node ([], last) = last
comma_node (first ∷ more, last) = at_line (line_of first) (e.Comma (first ∷ more) last)

-- with one operand more
abbrev pub with_operand : List Expr × Expr → Expr → List Expr × Expr
with_operand (dropped, last) next = (dropped ++ last ∷ [], next)

abbrev pub Layer : Type 0
Layer = ExprNode-F Direct ExprNode Suffix Declarator Expr Parameter TypeName

-- Whether a node is that of a unary expression (C11 6.5.3), which alone may stand left of an assignment operator.
abbrev pub is_unary_node : Layer → Bool
is_unary_node (ExprNode-F.Cast ty x) = false
is_unary_node (ExprNode-F.Binary left op line right) = false
is_unary_node (ExprNode-F.Conditional x line first second) = false
is_unary_node (ExprNode-F.Assign left op line right) = false
is_unary_node (ExprNode-F.Comma dropped last) = false
is_unary_node _ = true

unfoldable pub is_unary : Expr → Bool
is_unary x = is_unary_node (out-ExprNode x.node)

-- ---- specifiers, types and declarators

abbrev pub specifier_node : ℕ → SpecifierWord → Specifier
specifier_node line word = record { line = line; word = word }

abbrev pub pointer_node : ℕ → Pointer
pointer_node line = record { line = line; is_const = false; is_volatile = false }

-- a pointer with one qualifier more
abbrev pub qualified : Pointer → Bool → Pointer
qualified p true = record { line = p.line; is_const = true; is_volatile = p.is_volatile }
qualified p false = record { line = p.line; is_const = p.is_const; is_volatile = true }

-- the line of the first specifier
abbrev pub first_line : List Specifier → ℕ
first_line [] = 0
first_line (s ∷ ss) = s.line

unfoldable pub type_node : List Specifier → Option Declarator → TypeName
type_node specifiers declarator = roll-TypeName (record { line = first_line specifiers; specifiers = specifiers; declarator = declarator })

unfoldable pub parameter_node : List Specifier → Option Declarator → Parameter
parameter_node specifiers declarator = roll-Parameter (record { line = first_line specifiers; specifiers = specifiers; declarator = declarator })

abbrev pub direct_name : Bytes → Token → Direct
direct_name src t = d.Name (record { line = t.line; bytes = spelling src t })

-- a declarator whose first token is on a line
unfoldable pub declarator_node : ℕ → List Pointer → Direct → List Suffix → Declarator
declarator_node line pointers direct suffixes = record { line = line; pointers = pointers; direct = direct; suffixes = suffixes }
