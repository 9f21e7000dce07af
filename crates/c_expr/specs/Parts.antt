-- Parts of lines of the grammar, each of which is a function of its own.
use Rattle.std.specs.Prelude.{ℕ, zero, suc, ◌+◌, Bool, false, not, ◌&&◌, List, [], ◌∷◌, ◌++◌, Option, Some, None}
use Rattle.c_lexer.specs.declared.token.Token.{Token}
use Rattle.c_tree.specs.declared.expression.Expr.{Expr}
use Rattle.c_tree.specs.declared.expression.Declarator.{Declarator}
use Rattle.c_tree.specs.declared.expression.Parameter.{Parameter}
use Rattle.c_expr.specs.declared.start.Start.{Start}
use Rattle.c_expr.specs.declared.start.Start.TheVariants as at
use Rattle.c_expr.specs.declared.start.Naming.{Naming}
use Rattle.c_expr.specs.Codes.{code, kinds, binary_operators, is_among_binary, name, comma, text, close_bracket, close_paren, postfix_operators}
use Rattle.c_expr.specs.Nodes.{Bytes, with_operand, name_node, text_of, postfix_node, sizeof_expr_node, sizeof_type_node}
use Rattle.c_expr.specs.Reading.{Reader, one, grown, sign, ◌>>=◌, ◌<$>◌, pure, choose, begins, begins_type, in_parens, type_name, parameters, may_end, core_starts, cast, assignment, behind_comma, level, operated, operation}

-- the tokens behind the first one
abbrev pub behind : List Token → List Token
behind [] = []
behind (t ∷ rest) = rest

-- an operator between two operands may be first
abbrev pub may_go_on : List Token → Bool
may_go_on [] = false
may_go_on (t ∷ rest) = is_among_binary (code t)

-- a part that makes a longer expression of the one before it, with this
abbrev pub applied : Reader (Expr → Expr) → Expr → Reader Expr
applied part left = part >>= (λ longer. pure (longer left))

abbrev pub name_line : Bytes → Reader Expr
name_line src = name_node src <$> one name

-- the bytes of texts behind bytes of the same node
abbrev pub texts_behind : Bytes → Bytes → Reader Bytes
texts_behind src before = grown (begins (text ∷ [])) (λ found t. found ++ text_of src t) (one text) before

-- `++` or `--` behind an expression
abbrev pub step : Reader (Expr → Expr)
step = (λ p. postfix_node p.0 p.1) <$> sign postfix_operators

module _ (src : Bytes) (expr : Start → Reader Expr) (declarator : Naming → Reader Declarator) where
  -- what stands between the brackets of an array
  abbrev pub array_length : Reader (Option Expr)
  array_length = choose (begins (close_bracket ∷ [])) (pure None) (Some <$> expr at.Conditional)

  -- a declarator, where one of these kinds begins it
  abbrev pub declared : Naming → List ℕ → Reader (Option Declarator)
  declared naming starts = choose (begins starts) (Some <$> declarator naming) (pure None)

  -- what stands between the parentheses of a function
  abbrev pub parameter_list : Reader (List Parameter)
  parameter_list = choose (begins (close_paren ∷ [])) (pure []) (parameters src expr declarator)

  -- what `sizeof` is applied to, with a node at its line
  abbrev pub measured : ℕ → Reader Expr
  measured line = choose begins_type (sizeof_type_node line <$> in_parens (type_name src expr declarator)) (sizeof_expr_node line <$> expr at.Unary)

  -- a declarator ends behind pointers and before these tokens
  abbrev pub ends : Naming → List Token → Bool
  ends naming w = may_end src expr declarator naming && not (begins (core_starts src expr declarator naming) w)

  -- an operator of a level with its right operand behind a left operand, with it
  abbrev pub operation_behind : ℕ → Expr → Reader Expr
  operation_behind n left = operation src expr declarator (binary_operators n) (level src expr declarator n) >>= (λ found. pure (operated src expr declarator left found))

  -- any number of them
  abbrev pub operations : ℕ → Expr → Reader Expr
  operations n left = grown (begins (kinds (binary_operators n))) (operated src expr declarator) (operation src expr declarator (binary_operators n) (level src expr declarator n)) left

  -- so many levels from one on, the tightest first
  unfoldable pub ladder : ℕ → ℕ → Expr → Reader Expr
  ladder zero k left = pure left
  ladder (suc n) k left = operations k left >>= (λ longer. ladder n (k + 1) longer)

  abbrev pub climbed : ℕ → Reader Expr
  climbed n = cast src expr declarator >>= (λ first. ladder n 0 first)

  -- an operand with all that stand behind commas behind it
  abbrev pub operands : Expr → Reader (List Expr × Expr)
  operands first = grown (begins (comma ∷ [])) with_operand (behind_comma (assignment src expr declarator)) ([], first)
