-- Reading a line of the grammar from the front of a list of tokens, with one token of outlook, two at a `(`.
--
-- A reader answers what it read and the tokens that are left, or how many tokens are left at the first that
-- does not belong. The functions of the parser are these readers.
use Rattle.std.specs.Prelude.{ℕ, zero, suc, Bool, true, false, not, ◌&&◌, if◌then◌else◌, ◌==◌, List, [], ◌∷◌, ◌++◌, length, Option, Some, None, option_map, Result, Ok, Err}
use Rattle.c_lexer.specs.declared.token.Token.{Token}
use Rattle.c_tree.specs.declared.operator.BinaryOp.{BinaryOp}
use Rattle.c_tree.specs.declared.operator.PrefixOp.{PrefixOp}
use Rattle.c_tree.specs.declared.specifier.Specifier.{Specifier}
use Rattle.c_tree.specs.declared.specifier.Pointer.{Pointer}
use Rattle.c_tree.specs.declared.expression.Expr.{Expr}
use Rattle.c_tree.specs.declared.expression.TypeName.{TypeName}
use Rattle.c_tree.specs.declared.expression.Declarator.{Declarator}
use Rattle.c_tree.specs.declared.expression.Direct.{Direct}
use Rattle.c_tree.specs.declared.expression.Direct.TheVariants as d
use Rattle.c_tree.specs.declared.expression.Suffix.{Suffix}
use Rattle.c_tree.specs.declared.expression.Suffix.TheVariants as s
use Rattle.c_tree.specs.declared.expression.Parameter.{Parameter}
use Rattle.c_expr.specs.declared.start.Start.{Start}
use Rattle.c_expr.specs.declared.start.Start.TheVariants as at
use Rattle.c_expr.specs.declared.start.Naming.{Naming}
use Rattle.c_expr.specs.declared.start.Naming.TheVariants as n
use Rattle.c_expr.specs.Codes.{of_kind, of_table, Table, kinds, one_of, code, name, text, open_bracket, close_bracket, open_paren, close_paren, star, question, colon, comma, sizeof_word, binary_operators, levels, assignment_operators, step_operators, unary_operators, postfix_operators, specifier_words, qualifiers, specifier_starts, postfix_starts, suffix_starts, declarator_starts, abstract_starts, parameter_starts}
use Rattle.c_expr.specs.Spelling.{push, line_at}
use Rattle.c_expr.specs.Nodes.{Bytes, text_of, at_line, constant_node, name_node, text_node, parenthesized_node, index_node, call_node, postfix_node, prefix_node, sizeof_expr_node, sizeof_type_node, cast_node, binary_node, conditional_node, assign_node, comma_node, with_operand, is_unary, specifier_node, pointer_node, qualified, type_node, parameter_node, direct_name, declarator_node}

-- ---- readers

abbrev pub Reader : Type 0 → Type 0
Reader A = List Token → Result (A × List Token) ℕ

abbrev pub and_then : {A B : Type 0} → Result (A × List Token) ℕ → (A → Reader B) → Result (B × List Token) ℕ
and_then (Ok p) f = f p.0 p.1
and_then (Err left) f = Err left

infixl 10 ◌>>=◌
abbrev pub ◌>>=◌ : {A B : Type 0} → Reader A → (A → Reader B) → Reader B
r >>= f = λ w. and_then (r w) f

infixl 10 ◌>>◌
abbrev pub ◌>>◌ : {A B : Type 0} → Reader A → Reader B → Reader B
r >> q = r >>= (λ _. q)

abbrev pub pure : {A : Type 0} → A → Reader A
pure a = λ w. Ok (a, w)

infixr 11 ◌<$>◌
abbrev pub ◌<$>◌ : {A B : Type 0} → (A → B) → Reader A → Reader B
f <$> r = r >>= (λ x. pure (f x))

-- ---- one token

-- the tokens begin with one of these kinds
unfoldable pub begins : List ℕ → List Token → Bool
begins ks [] = false
begins ks (t ∷ rest) = one_of ks (code t)

-- the second token is one of these kinds
unfoldable pub then_begins : List ℕ → List Token → Bool
then_begins ks [] = false
then_begins ks (t ∷ rest) = begins ks rest

abbrev pub taken : {A : Type 0} → Token → List Token → Option A → Result (A × List Token) ℕ
taken t rest (Some a) = Ok (a, rest)
taken t rest None = Err (length (t ∷ rest))

-- a token that means something
unfoldable pub token : {A : Type 0} → (Token → Option A) → Reader A
token f [] = Err 0
token f (t ∷ rest) = taken t rest (f t)

-- there is a token, of another kind
unfoldable pub until : ℕ → List Token → Bool
until k [] = false
until k (t ∷ rest) = not (code t == k)

-- a token of a kind
abbrev pub one : ℕ → Reader Token
one k = token (of_kind k)

-- the line of a token of a table, and its meaning
abbrev pub sign : {A : Type 0} → Table A → Reader (ℕ × A)
sign table = token (of_table table)

-- ---- choices and repetitions

abbrev pub choose : {A : Type 0} → (List Token → Bool) → Reader A → Reader A → Reader A
choose test r q = λ w. (if test w then r else q) w

-- as long as the test holds of the tokens, what was read so far grows by what is read next
unfoldable pub grown_from : {A B : Type 0} → (List Token → Bool) → (A → B → A) → Reader B → ℕ → A → Reader A
grown_from test grow r zero a = pure a
grown_from test grow r (suc turns) a = choose test (r >>= (λ b. grown_from test grow r turns (grow a b))) (pure a)

abbrev pub grown : {A B : Type 0} → (List Token → Bool) → (A → B → A) → Reader B → A → Reader A
grown test grow r a = λ w. grown_from test grow r (length w) a w

-- what one reads, behind a comma
abbrev pub behind_comma : {A : Type 0} → Reader A → Reader A
behind_comma r = one comma >> r

-- at least one, with commas between
abbrev pub listed : {A : Type 0} → Reader A → Reader (List A)
listed r = r >>= (λ x. grown (begins (comma ∷ [])) push (behind_comma r) (x ∷ []))

abbrev pub in_parens : {A : Type 0} → Reader A → Reader A
in_parens r = do
  one open_paren
  x ← r
  one close_paren
  pure x

-- ---- lines without expressions

unfoldable pub specifier : Reader Specifier
specifier = (λ p. specifier_node p.0 p.1) <$> sign specifier_words

unfoldable pub specifiers : Reader (List Specifier)
specifiers = specifier >>= (λ first. grown (begins specifier_starts) push specifier (first ∷ []))

unfoldable pub pointer : Reader Pointer
pointer = do
  t ← one star
  grown (begins (kinds qualifiers)) (λ p q. qualified p q.1) (sign qualifiers) (pointer_node t.line)

unfoldable pub pointers : Reader (List Pointer)
pointers = grown (begins (star ∷ [])) push pointer []

-- a `(` and behind it a type's name
unfoldable pub begins_type : List Token → Bool
begins_type w = begins (open_paren ∷ []) w && then_begins specifier_starts w

-- a `(` that encloses a declarator, and begins no list of parameters
unfoldable pub encloses : List Token → Bool
encloses w = begins (open_paren ∷ []) w && not (then_begins parameter_starts w)

-- with the line of the first token
abbrev pub located : {A : Type 0} → (ℕ → Reader A) → Reader A
located r = λ w. r (line_at w) w

-- ---- lines over readers of expressions and declarators

module _ (src : Bytes) (expr : Start → Reader Expr) (declarator : Naming → Reader Declarator) where
  -- ---- declarators

  unfoldable pub array : Reader Suffix
  array = do
    t ← one open_bracket
    size ← choose (begins (close_bracket ∷ [])) (pure None) (Some <$> expr at.Conditional)
    one close_bracket
    pure (s.Array t.line size)

  unfoldable pub parameter : Reader Parameter
  parameter = do
    ss ← specifiers
    declared ← choose (begins declarator_starts) (Some <$> declarator n.Either) (pure None)
    pure (parameter_node ss declared)

  unfoldable pub parameters : Reader (List Parameter)
  parameters = listed parameter

  unfoldable pub function : Reader Suffix
  function = do
    t ← one open_paren
    ps ← choose (begins (close_paren ∷ [])) (pure []) parameters
    one close_paren
    pure (s.Function t.line ps)

  unfoldable pub suffix : Reader Suffix
  suffix = choose (begins (open_bracket ∷ [])) array function

  unfoldable pub suffixes : List Suffix → Reader (List Suffix)
  suffixes found = grown (begins suffix_starts) push suffix found

  -- what stands in the middle, with what stands behind it
  unfoldable pub named : Reader (Direct × List Suffix)
  named = do
    t ← one name
    found ← suffixes []
    pure (direct_name src t, found)

  unfoldable pub nested : Naming → Reader (Direct × List Suffix)
  nested naming = do
    inner ← in_parens (declarator naming)
    found ← suffixes []
    pure (d.Nested inner, found)

  -- without a name, at least one suffix
  unfoldable pub bare : Reader (Direct × List Suffix)
  bare = do
    first ← suffix
    found ← suffixes (first ∷ [])
    pure (d.Unnamed, found)

  -- the middle of a declarator, behind its pointers
  abbrev pub core : Naming → Reader (Direct × List Suffix)
  core n.Named = choose (begins (name ∷ [])) named (nested n.Named)
  core n.Unnamed = choose encloses (nested n.Unnamed) bare
  core n.Either = choose (begins (name ∷ [])) named (choose encloses (nested n.Either) bare)

  -- behind at least one pointer an abstract declarator may end
  abbrev pub core_starts : Naming → List ℕ
  core_starts n.Named = name ∷ open_paren ∷ []
  core_starts n.Unnamed = suffix_starts
  core_starts n.Either = name ∷ suffix_starts

  abbrev pub may_end : Naming → Bool
  may_end n.Named = false
  may_end n.Unnamed = true
  may_end n.Either = true

  unfoldable pub core_behind : Naming → List Pointer → Reader (Direct × List Suffix)
  core_behind naming [] = core naming
  core_behind naming (p ∷ ps) = choose (λ w. may_end naming && not (begins (core_starts naming) w)) (pure (d.Unnamed, [])) (core naming)

  unfoldable pub declarator_line : Naming → Reader Declarator
  declarator_line naming = located (λ line. do
    ps ← pointers
    found ← core_behind naming ps
    pure (declarator_node line ps found.0 found.1))

  unfoldable pub type_name : Reader TypeName
  type_name = do
    ss ← specifiers
    declared ← choose (begins abstract_starts) (Some <$> declarator n.Unnamed) (pure None)
    pure (type_node ss declared)

  -- ---- expressions

  unfoldable pub texts : Reader Expr
  texts = do
    first ← one text
    bytes ← grown (begins (text ∷ [])) (λ found t. found ++ text_of src t) (one text) (text_of src first)
    pure (text_node first bytes)

  unfoldable pub parenthesized : Reader Expr
  parenthesized = do
    t ← one open_paren
    x ← expr at.Expression
    one close_paren
    pure (parenthesized_node t.line x)

  -- a number or a character constant
  unfoldable pub constant : Reader Expr
  constant = token (λ t. option_map (at_line t.line) (constant_node t.kind))

  unfoldable pub primary : Reader Expr
  primary =
      choose (begins (name ∷ [])) (name_node src <$> one name)
      (choose (begins (text ∷ [])) texts
      (choose (begins (open_paren ∷ [])) parenthesized constant))

  -- what stands behind a postfix expression, as a function of this expression
  unfoldable pub index : Reader (Expr → Expr)
  index = do
    t ← one open_bracket
    x ← expr at.Expression
    one close_bracket
    pure (index_node t.line x)

  unfoldable pub arguments : Reader (List Expr)
  arguments = choose (begins (close_paren ∷ [])) (pure []) (listed (expr at.Assignment))

  unfoldable pub call : Reader (Expr → Expr)
  call = do
    t ← one open_paren
    xs ← arguments
    one close_paren
    pure (call_node t.line xs)

  unfoldable pub postfix_part : Reader (Expr → Expr)
  postfix_part =
      choose (begins (open_bracket ∷ [])) index
      (choose (begins (open_paren ∷ [])) call ((λ p. postfix_node p.0 p.1) <$> sign postfix_operators))

  unfoldable pub postfix : Reader Expr
  postfix = primary >>= grown (begins postfix_starts) (λ x part. part x) postfix_part

  unfoldable pub sizeof : Reader Expr
  sizeof = do
    t ← one sizeof_word
    choose begins_type (sizeof_type_node t.line <$> in_parens type_name) (sizeof_expr_node t.line <$> expr at.Unary)

  unfoldable pub prefix : Table PrefixOp → Start → Reader Expr
  prefix table start = do
    p ← sign table
    x ← expr start
    pure (prefix_node p.0 p.1 x)

  unfoldable pub unary : Reader Expr
  unary =
      choose (begins (sizeof_word ∷ [])) sizeof
      (choose (begins (kinds step_operators)) (prefix step_operators at.Unary)
      (choose (begins (kinds unary_operators)) (prefix unary_operators at.Cast) postfix))

  unfoldable pub typed : Reader Expr
  typed = do
    t ← one open_paren
    ty ← type_name
    one close_paren
    x ← expr at.Cast
    pure (cast_node t.line ty x)

  unfoldable pub cast : Reader Expr
  cast = choose begins_type typed unary

  -- an operator and its right operand
  abbrev pub operation : Table BinaryOp → Reader Expr → Reader ((ℕ × BinaryOp) × Expr)
  operation table operand = do
    p ← sign table
    x ← operand
    pure (p, x)

  abbrev pub operated : Expr → (ℕ × BinaryOp) × Expr → Expr
  operated x p = binary_node x p.0.0 p.0.1 p.1

  -- operators of the levels below this number
  unfoldable pub level : ℕ → Reader Expr
  level zero = cast
  level (suc n) = level n >>= grown (begins (kinds (binary_operators n))) operated (operation (binary_operators n) (level n))

  unfoldable pub branches : Reader (Expr → Expr)
  branches = do
    t ← one question
    first ← expr at.Expression
    one colon
    second ← expr at.Conditional
    pure (λ x. conditional_node x t.line first second)

  unfoldable pub conditional : Reader Expr
  conditional = do
    x ← level levels
    choose (begins (question ∷ [])) ((λ f. f x) <$> branches) (pure x)

  unfoldable pub assigned : Expr → Reader Expr
  assigned x = do
    p ← sign assignment_operators
    right ← expr at.Assignment
    pure (assign_node x p.0 p.1 right)

  unfoldable pub assignment : Reader Expr
  assignment = do
    x ← conditional
    choose (λ w. is_unary x && begins (kinds assignment_operators) w) (assigned x) (pure x)

  unfoldable pub expression : Reader Expr
  expression = do
    first ← assignment
    found ← grown (begins (comma ∷ [])) with_operand (behind_comma assignment) ([], first)
    pure (comma_node found)

  abbrev pub expr_line : Start → Reader Expr
  expr_line at.Expression = expression
  expr_line at.Assignment = assignment
  expr_line at.Conditional = conditional
  expr_line at.Cast = cast
  expr_line at.Unary = unary

-- ---- by depth: each `(`, `[`, prefix operator, `?`, `:` and assignment operator leads one level down

abbrev pub stop : {A : Type 0} → Reader A
stop = λ w. Err (length w)

unfoldable mutual
  pub expr_at : Bytes → ℕ → Start → Reader Expr
  expr_at src zero start = stop
  expr_at src (suc depth) start = expr_line src (expr_at src depth) (declarator_at src depth) start

  pub declarator_at : Bytes → ℕ → Naming → Reader Declarator
  declarator_at src zero naming = stop
  declarator_at src (suc depth) naming = declarator_line src (expr_at src depth) (declarator_at src depth) naming
