-- The grammar of expressions and declarators (C11 annex A.2.1 and A.2.2, in the accepted subset), one
-- definition for each of its lines: which tokens spell which part of the tree.
--
-- The lines lead back to each other. How often they do so in a derivation is its depth, so each line is said
-- of a depth: the definitions below take the lines of one depth less for what stands behind a token.
use Rattle.std.specs.Prelude.{ℕ, zero, suc, List, [], ◌∷◌, ◌++◌, option_map}
use Rattle.c_lexer.specs.declared.token.Token.{Token}
use Rattle.c_tree.specs.declared.operator.BinaryOp.{BinaryOp}
use Rattle.c_tree.specs.declared.operator.PrefixOp.{PrefixOp}
use Rattle.c_tree.specs.declared.specifier.Specifier.{Specifier}
use Rattle.c_tree.specs.declared.specifier.Pointer.{Pointer}
use Rattle.c_tree.specs.declared.expression.Expr.{Expr}
use Rattle.c_tree.specs.declared.expression.TypeName.{TypeName}
use Rattle.c_tree.specs.declared.expression.Declarator.{Declarator}
use Rattle.c_tree.specs.declared.expression.Direct.{Direct}
use Rattle.c_tree.specs.declared.expression.Direct.TheVariants as d
use Rattle.c_tree.specs.declared.expression.Suffix.{Suffix}
use Rattle.c_tree.specs.declared.expression.Suffix.TheVariants as s
use Rattle.c_tree.specs.declared.expression.Parameter.{Parameter}
use Rattle.c_expr.specs.declared.start.Start.{Start}
use Rattle.c_expr.specs.declared.start.Start.TheVariants as at
use Rattle.c_expr.specs.declared.start.Naming.{Naming}
use Rattle.c_expr.specs.declared.start.Naming.TheVariants as n
use Rattle.c_expr.specs.Codes.{Table, name, text, open_bracket, close_bracket, open_paren, close_paren, star, question, colon, comma, sizeof_word, binary_operators, levels, assignment_operators, step_operators, unary_operators, postfix_operators, specifier_words, qualifiers}
use Rattle.c_expr.specs.Spelling.{Spelling, Means, One, Sign, Is, ◌>>=◌, ◌>>◌, ◌<$>◌, ◌or◌, Grown, Further, Some_of, Listed, Maybe, In_parens, Located}
use Rattle.c_expr.specs.Nodes.{Bytes, text_of, at_line, constant_node, name_node, text_node, parenthesized_node, index_node, call_node, postfix_node, prefix_node, sizeof_expr_node, sizeof_type_node, cast_node, binary_node, conditional_node, assign_node, comma_node, with_operand, specifier_node, pointer_node, qualified, type_node, parameter_node, direct_name, declarator_node}

-- ---- specifiers and pointers

-- a word of a declaration's specifiers (C11 6.7.1 to 6.7.3)
abbrev pub IsSpecifier : Spelling Specifier
IsSpecifier = (λ p. specifier_node p.0 p.1) <$> Sign specifier_words

-- declaration-specifiers, specifier-qualifier-list: at least one word, of any kind and in any order
abbrev pub IsSpecifiers : Spelling (List Specifier)
IsSpecifiers = Some_of IsSpecifier

-- `*` and its qualifiers
abbrev pub IsPointer : Spelling Pointer
IsPointer = do
  t ← One star
  Grown (λ p q. qualified p q.1) (Sign qualifiers) (pointer_node t.line)

abbrev pub IsPointers : Spelling (List Pointer)
IsPointers = Further IsPointer []

module _ (src : Bytes) (IsExpr : Start → Spelling Expr) (IsDeclarator : Naming → Spelling Declarator) where
  -- ---- declarators (C11 6.7.6) and abstract declarators (C11 6.7.7)

  -- `[` and perhaps a length and `]`
  abbrev pub IsArray : Spelling Suffix
  IsArray = do
    t ← One open_bracket
    size ← Maybe (IsExpr at.Conditional)
    One close_bracket
    Is (s.Array t.line size)

  -- parameter-declaration: specifiers, and perhaps a declarator with or without a name
  abbrev pub IsParameter : Spelling Parameter
  IsParameter = do
    ss ← IsSpecifiers
    declared ← Maybe (IsDeclarator n.Either)
    Is (parameter_node ss declared)

  -- parameter-list: `()` is an empty one
  abbrev pub IsParameters : Spelling (List Parameter)
  IsParameters = Listed IsParameter or Is []

  abbrev pub IsFunction : Spelling Suffix
  IsFunction = do
    t ← One open_paren
    ps ← IsParameters
    One close_paren
    Is (s.Function t.line ps)

  abbrev pub IsSuffix : Spelling Suffix
  IsSuffix = IsArray or IsFunction

  -- a name and what stands behind it
  abbrev pub IsNamed : Spelling (Direct × List Suffix)
  IsNamed = do
    t ← One name
    found ← Further IsSuffix []
    Is (direct_name src t, found)

  -- a declarator in parentheses and what stands behind it
  abbrev pub IsNested : Naming → Spelling (Direct × List Suffix)
  IsNested naming = do
    inner ← In_parens (IsDeclarator naming)
    found ← Further IsSuffix []
    Is (d.Nested inner, found)

  -- no name, and at least one suffix
  abbrev pub IsBare : Spelling (Direct × List Suffix)
  IsBare = do
    found ← Some_of IsSuffix
    Is (d.Unnamed, found)

  -- what stands behind the pointers: direct-declarator or direct-abstract-declarator
  abbrev pub IsCore : Naming → Spelling (Direct × List Suffix)
  IsCore n.Named = IsNamed or IsNested n.Named
  IsCore n.Unnamed = IsNested n.Unnamed or IsBare
  IsCore n.Either = IsNamed or IsNested n.Either or IsBare

  -- nothing behind the pointers, of which there is at least one
  abbrev pub IsPointerAlone : Naming → List Pointer → Spelling (Direct × List Suffix)
  IsPointerAlone n.Named ps x w = ⊥
  IsPointerAlone _ [] x w = ⊥
  IsPointerAlone _ (p ∷ ps) x w = Is (d.Unnamed, []) x w

  -- declarator, abstract-declarator
  abbrev pub IsDeclaratorLine : Naming → Spelling Declarator
  IsDeclaratorLine naming = Located (λ line. do
    ps ← IsPointers
    found ← IsCore naming or IsPointerAlone naming ps
    Is (declarator_node line ps found.0 found.1))

  -- type-name: specifiers, and perhaps a declarator without a name
  abbrev pub IsTypeName : Spelling TypeName
  IsTypeName = do
    ss ← IsSpecifiers
    declared ← Maybe (IsDeclarator n.Unnamed)
    Is (type_node ss declared)

  -- ---- expressions

  -- primary-expression (C11 6.5.1): a name
  abbrev pub IsName : Spelling Expr
  IsName = name_node src <$> One name

  -- a number or a character constant
  abbrev pub IsConstant : Spelling Expr
  IsConstant = Means (λ t. option_map (at_line t.line) (constant_node t.kind))

  -- adjacent texts, each decoded by itself, joined
  abbrev pub IsTexts : Spelling Expr
  IsTexts = do
    first ← One text
    bytes ← Grown (λ found t. found ++ text_of src t) (One text) (text_of src first)
    Is (text_node first bytes)

  -- `(` expression `)`
  abbrev pub IsParenthesized : Spelling Expr
  IsParenthesized = do
    t ← One open_paren
    x ← IsExpr at.Expression
    One close_paren
    Is (parenthesized_node t.line x)

  abbrev pub IsPrimary : Spelling Expr
  IsPrimary = IsName or IsTexts or IsParenthesized or IsConstant

  -- postfix-expression (C11 6.5.2): what stands behind, as a function of what it stands behind
  abbrev pub IsIndex : Spelling (Expr → Expr)
  IsIndex = do
    t ← One open_bracket
    x ← IsExpr at.Expression
    One close_bracket
    Is (index_node t.line x)

  -- argument-expression-list
  abbrev pub IsArguments : Spelling (List Expr)
  IsArguments = Listed (IsExpr at.Assignment) or Is []

  abbrev pub IsCall : Spelling (Expr → Expr)
  IsCall = do
    t ← One open_paren
    xs ← IsArguments
    One close_paren
    Is (call_node t.line xs)

  abbrev pub IsStep : Spelling (Expr → Expr)
  IsStep = (λ p. postfix_node p.0 p.1) <$> Sign postfix_operators

  abbrev pub IsPostfix : Spelling Expr
  IsPostfix = IsPrimary >>= Grown (λ x part. part x) (IsIndex or IsCall or IsStep)

  -- unary-expression (C11 6.5.3)
  abbrev pub IsSizeof : Spelling Expr
  IsSizeof = do
    t ← One sizeof_word
    (sizeof_type_node t.line <$> In_parens IsTypeName) or (sizeof_expr_node t.line <$> IsExpr at.Unary)

  abbrev pub IsPrefix : Table PrefixOp → Start → Spelling Expr
  IsPrefix table start = do
    p ← Sign table
    x ← IsExpr start
    Is (prefix_node p.0 p.1 x)

  abbrev pub IsUnary : Spelling Expr
  IsUnary = IsSizeof or IsPrefix step_operators at.Unary or IsPrefix unary_operators at.Cast or IsPostfix

  -- cast-expression (C11 6.5.4)
  abbrev pub IsTyped : Spelling Expr
  IsTyped = do
    t ← One open_paren
    ty ← IsTypeName
    One close_paren
    x ← IsExpr at.Cast
    Is (cast_node t.line ty x)

  abbrev pub IsCast : Spelling Expr
  IsCast = IsTyped or IsUnary

  -- an operator of a level with its right operand
  abbrev pub IsOperation : Table BinaryOp → Spelling Expr → Spelling ((ℕ × BinaryOp) × Expr)
  IsOperation table IsOperand = do
    p ← Sign table
    x ← IsOperand
    Is (p, x)

  abbrev pub operated : Expr → (ℕ × BinaryOp) × Expr → Expr
  operated x p = binary_node x p.0.0 p.0.1 p.1

  -- multiplicative-expression to logical-OR-expression (C11 6.5.5 to 6.5.14): operands of the tighter levels,
  -- and operators of the level between them, grouped from the left
  abbrev pub IsLevel : ℕ → Spelling Expr
  IsLevel zero = IsCast
  IsLevel (suc level) = IsLevel level >>= Grown operated (IsOperation (binary_operators level) (IsLevel level))

  -- conditional-expression (C11 6.5.15)
  abbrev pub IsBranches : Spelling (Expr → Expr)
  IsBranches = do
    t ← One question
    first ← IsExpr at.Expression
    One colon
    second ← IsExpr at.Conditional
    Is (λ x. conditional_node x t.line first second)

  abbrev pub IsConditional : Spelling Expr
  IsConditional = do
    x ← IsLevel levels
    ((λ f. f x) <$> IsBranches) or Is x

  -- assignment-expression (C11 6.5.16)
  abbrev pub IsAssigned : Expr → Spelling Expr
  IsAssigned x = do
    p ← Sign assignment_operators
    right ← IsExpr at.Assignment
    Is (assign_node x p.0 p.1 right)

  abbrev pub IsAssignment : Spelling Expr
  IsAssignment = IsConditional or (IsUnary >>= IsAssigned)

  -- expression (C11 6.5.17)
  abbrev pub IsExpression : Spelling Expr
  IsExpression = do
    first ← IsAssignment
    operands ← Grown with_operand (One comma >> IsAssignment) ([], first)
    Is (comma_node operands)

  abbrev pub IsExprLine : Start → Spelling Expr
  IsExprLine at.Expression = IsExpression
  IsExprLine at.Assignment = IsAssignment
  IsExprLine at.Conditional = IsConditional
  IsExprLine at.Cast = IsCast
  IsExprLine at.Unary = IsUnary

-- ---- by depth

unfoldable mutual
  pub ExprAt : Bytes → ℕ → Start → Spelling Expr
  ExprAt src zero start x w = ⊥
  ExprAt src (suc depth) start x w = IsExprLine src (ExprAt src depth) (DeclaratorAt src depth) start x w

  pub DeclaratorAt : Bytes → ℕ → Naming → Spelling Declarator
  DeclaratorAt src zero naming x w = ⊥
  DeclaratorAt src (suc depth) naming x w = IsDeclaratorLine src (ExprAt src depth) (DeclaratorAt src depth) naming x w

-- The tokens of the source are this expression.
abbrev pub DerivesExpression : List Token → Bytes → Expr → Type 0
DerivesExpression tokens src x = (depth : ℕ) × ExprAt src depth at.Expression x tokens

-- They are this declarator.
abbrev pub DerivesDeclarator : Naming → List Token → Bytes → Declarator → Type 0
DerivesDeclarator naming tokens src x = (depth : ℕ) × DeclaratorAt src depth naming x tokens
