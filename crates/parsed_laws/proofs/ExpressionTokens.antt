-- An expression that the grammar derives has no more tokens than those that spell it.
use Rattle.std.proofs.Common.{◌≡◌, ℕ, zero, suc, ◌+◌, ◌≤◌, List, [], ◌∷◌, map, length, refl, subst, ap, ◌∙◌, Option, Some, None, arith}
use Rattle.std.specs.Prelude.{option_map}
use Rattle.srmt_base.specs.declared.ty.Ty.{Ty}
use Rattle.c_lexer.specs.declared.token.TokenKind.{TokenKind}
use Rattle.c_lexer.specs.declared.token.TokenKind.TheVariants.{Keyword, Name, Number, Character, Text, Punct}
use Rattle.c_tree.specs.declared.operator.BinaryOp.{BinaryOp}
use Rattle.c_tree.specs.declared.operator.BinaryOp.TheVariants.{Arithmetic, And, Or}
use Rattle.c_tree.specs.declared.operator.CompoundOp.{CompoundOp}
use Rattle.c_tree.specs.declared.operator.PrefixOp.{PrefixOp}
use Rattle.c_tree.specs.declared.operator.PostfixOp.{PostfixOp}
use Rattle.c_tree.specs.declared.specifier.Pointer.{Pointer}
use Rattle.c_tree.specs.declared.expression.Expr.{Expr}
use Rattle.c_tree.specs.declared.expression.ExprNode.{ExprNode}
use Rattle.c_tree.specs.declared.expression.ExprNode.TheVariants as e
use Rattle.c_tree.specs.declared.expression.TypeName.{TypeName}
use Rattle.c_tree.specs.declared.expression.Declarator.{Declarator}
use Rattle.c_expr.specs.declared.start.Start.{Start}
use Rattle.c_expr.specs.declared.start.Start.TheVariants as at
use Rattle.c_expr.specs.declared.start.Naming.{Naming}
use Rattle.c_expr.specs.declared.start.Naming.TheVariants as n
use Rattle.c_expr.specs.Codes.{Table, binary_operators, levels, step_operators, unary_operators}
use Rattle.c_expr.specs.Spelling.{Spelling}
use Rattle.c_expr.specs.Nodes.{Bytes, at_line, line_of, spelling, constant_node, comma_node, with_operand}
use Rattle.c_expr.specs.Grammar.{IsNamed, IsNested, IsPointerAlone, IsDeclaratorLine, IsName, IsConstant, IsTexts, IsParenthesized, IsPrimary, IsIndex, IsArguments, IsCall, IsStep, IsPostfix, IsSizeof, IsPrefix, IsUnary, IsTyped, IsCast, IsOperation, operated, IsLevel, IsBranches, IsConditional, IsAssigned, IsAssignment, IsExpression, IsExprLine, ExprAt, DeclaratorAt}
use Rattle.typing_rules.specs.Source as t
use Rattle.typing_rules.specs.SourceViews.{exprs_from, binary_from, assignment_from, expr_view, node_view}
use Rattle.typing_rules.proofs.Exactness.{some_same}
use Rattle.typing_rules.proofs.SourceViewLaws.{view_name, view_number, view_character, view_text, view_parenthesized, view_index, view_call, view_postfix, view_prefix, view_sizeofexpr, view_sizeoftype, view_cast, view_binary, view_conditional, view_assign, view_comma, view_expr}
use Rattle.event_laws.specs.TokensOf.{tokens_of, tokens_in}
use Rattle.parsed_laws.proofs.Counting.{Takes, takes_so, takes_is, takes_bind, takes_then, takes_token, takes_map, takes_or, Together, one_more, takes_grown, takes_listed}

module _ (shift : ℕ → ℕ) where
  abbrev pub tokens : Expr → ℕ
  tokens x = tokens_of (expr_view shift x)

  abbrev pub HasExpr : Expr → ℕ → Type 0
  HasExpr x k = tokens x ≤ k

  -- what is enough is enough with one more
  pub expr_more : (x : Expr) (k : ℕ) → HasExpr x k → HasExpr x (1 + k)
  expr_more x k h = omega (arith, h)

  -- ---- nodes

  node_is : (line : ℕ) (node : ExprNode) (view : t.Node) → node_view shift node ≡ view → tokens (at_line line node) ≡ tokens_of (t.at (shift line) view)
  unfolding at_line
  node_is line node view e = ap tokens_of (view_expr shift (at_line line node)) ∙ ap (λ z. tokens_of (t.at (shift line) z)) e

  name_is : (line : ℕ) (bytes : Bytes) → tokens (at_line line (e.Name bytes)) ≡ 1
  unfolding tokens_of
  name_is line bytes = node_is line _ _ (view_name shift bytes)

  number_is : (line : ℕ) (ty : Ty) (m : ℕ) → tokens (at_line line (e.Number ty m)) ≡ 1
  unfolding tokens_of
  number_is line ty m = node_is line _ _ (view_number shift ty m)

  character_is : (line m : ℕ) → tokens (at_line line (e.Character m)) ≡ 1
  unfolding tokens_of
  character_is line m = node_is line _ _ (view_character shift m)

  text_is : (line : ℕ) (bytes : Bytes) → tokens (at_line line (e.Text bytes)) ≡ 1
  unfolding tokens_of
  text_is line bytes = node_is line _ _ (view_text shift bytes)

  parenthesized_is : (line : ℕ) (x : Expr) → tokens (at_line line (e.Parenthesized x)) ≡ tokens x
  unfolding tokens_of
  parenthesized_is line x = node_is line _ _ (view_parenthesized shift x)

  index_is : (line : ℕ) (x : Expr) (where_to : ℕ) (y : Expr) → tokens (at_line line (e.Index x where_to y)) ≡ 1 + (tokens x + tokens y)
  unfolding tokens_of
  index_is line x where_to y = node_is line _ _ (view_index shift x where_to y)

  -- of a list
  abbrev all_tokens : List Expr → ℕ
  all_tokens xs = tokens_in (exprs_from (map (expr_view shift) xs))

  call_is : (line : ℕ) (x : Expr) (where_to : ℕ) (xs : List Expr) → tokens (at_line line (e.Call x where_to xs)) ≡ 1 + (tokens x + all_tokens xs)
  unfolding tokens_of
  call_is line x where_to xs = node_is line _ _ (view_call shift x where_to xs)

  postfix_is : (line : ℕ) (x : Expr) (op : PostfixOp) (where_to : ℕ) → tokens (at_line line (e.Postfix x op where_to)) ≡ 1 + tokens x
  unfolding tokens_of
  postfix_is line x op where_to = node_is line _ _ (view_postfix shift x op where_to)

  prefix_is : (line : ℕ) (op : PrefixOp) (x : Expr) → tokens (at_line line (e.Prefix op x)) ≡ 1 + tokens x
  unfolding tokens_of
  prefix_is line op x = node_is line _ _ (view_prefix shift op x)

  sizeof_expr_is : (line : ℕ) (x : Expr) → tokens (at_line line (e.SizeofExpr x)) ≡ 1 + tokens x
  unfolding tokens_of
  sizeof_expr_is line x = node_is line _ _ (view_sizeofexpr shift x)

  sizeof_type_is : (line : ℕ) (ty : TypeName) → tokens (at_line line (e.SizeofType ty)) ≡ 1
  unfolding tokens_of
  sizeof_type_is line ty = node_is line _ _ (view_sizeoftype shift ty)

  cast_is : (line : ℕ) (ty : TypeName) (x : Expr) → tokens (at_line line (e.Cast ty x)) ≡ 1 + tokens x
  unfolding tokens_of
  cast_is line ty x = node_is line _ _ (view_cast shift ty x)

  binary_from_is : (op : BinaryOp) (line where_to : ℕ) (x y : t.Expr)
      → tokens_of (t.at line (binary_from op where_to x y)) ≡ 1 + (tokens_of x + tokens_of y)
  unfolding tokens_of
  binary_from_is (Arithmetic op) line where_to x y = refl
  binary_from_is And line where_to x y = refl
  binary_from_is Or line where_to x y = refl

  binary_is : (line : ℕ) (x : Expr) (op : BinaryOp) (where_to : ℕ) (y : Expr)
      → tokens (at_line line (e.Binary x op where_to y)) ≡ 1 + (tokens x + tokens y)
  binary_is line x op where_to y = node_is line _ _ (view_binary shift x op where_to y) ∙ binary_from_is op (shift line) (shift where_to) _ _

  conditional_is : (line : ℕ) (x : Expr) (where_to : ℕ) (y z : Expr)
      → tokens (at_line line (e.Conditional x where_to y z)) ≡ 1 + (tokens x + (tokens y + tokens z))
  unfolding tokens_of
  conditional_is line x where_to y z = node_is line _ _ (view_conditional shift x where_to y z)

  assignment_from_is : (op : Option CompoundOp) (line where_to : ℕ) (x y : t.Expr)
      → tokens_of (t.at line (assignment_from op where_to x y)) ≡ 1 + (tokens_of x + tokens_of y)
  unfolding tokens_of
  assignment_from_is None line where_to x y = refl
  assignment_from_is (Some op) line where_to x y = refl

  assign_is : (line : ℕ) (x : Expr) (op : Option CompoundOp) (where_to : ℕ) (y : Expr)
      → tokens (at_line line (e.Assign x op where_to y)) ≡ 1 + (tokens x + tokens y)
  assign_is line x op where_to y = node_is line _ _ (view_assign shift x op where_to y) ∙ assignment_from_is op (shift line) (shift where_to) _ _

  comma_is : (line : ℕ) (xs : List Expr) (y : Expr) → tokens (at_line line (e.Comma xs y)) ≡ all_tokens xs + tokens y
  unfolding tokens_of
  comma_is line xs y = node_is line _ _ (view_comma shift xs y)

  together : (xs : List Expr) (k : ℕ) → Together HasExpr xs k → all_tokens xs ≤ k
  unfolding tokens_of
  together [] k h = omega arith
  together (x ∷ xs) k h = omega (arith, h.2, together xs h.1 h.3, h.4)

  -- ---- lines of the grammar, over those of one depth less

  module _ (src : Bytes) (E : Start → Spelling Expr) (D : Naming → Spelling Declarator) (exprs : (start : Start) → Takes HasExpr (E start)) where
    takes_name : Takes HasExpr (IsName src E D)
    takes_name = takes_token (λ name. takes_is (omega (arith, name_is name.line (spelling src name))))

    constant_takes : (line : ℕ) (k : TokenKind) (x : Expr) → option_map (at_line line) (constant_node k) ≡ Some x → tokens x ≡ 1
    constant_takes line (Keyword i) x q = absurd cc
    constant_takes line Name x q = absurd cc
    constant_takes line (Number ty m) x q = subst (λ y. tokens y ≡ 1) (some_same (at_line line (e.Number ty m)) x q) (number_is line ty m)
    constant_takes line (Character m) x q = subst (λ y. tokens y ≡ 1) (some_same (at_line line (e.Character m)) x q) (character_is line m)
    constant_takes line Text x q = absurd cc
    constant_takes line (Punct i) x q = absurd cc

    takes_constant : Takes HasExpr (IsConstant src E D)
    takes_constant = record { takes = λ x w h. omega (arith, ap length h.1, constant_takes h.0.line h.0.kind x h.2) }

    takes_texts : Takes HasExpr (IsTexts src E D)
    takes_texts = takes_token (λ first. takes_then (λ bytes m. takes_is (omega (arith, text_is first.line bytes))))

    takes_parenthesized : Takes HasExpr (IsParenthesized src E D)
    takes_parenthesized =
        takes_token (λ o. takes_bind (exprs at.Expression) (λ x m h. takes_token (λ c. takes_is (omega (arith, h, parenthesized_is o.line x)))))

    takes_primary : Takes HasExpr (IsPrimary src E D)
    takes_primary = takes_or takes_name (takes_or takes_texts (takes_or takes_parenthesized takes_constant))

    -- what stands behind an expression
    abbrev HasPart : (Expr → Expr) → ℕ → Type 0
    HasPart f k = (x : Expr) (m : ℕ) → HasExpr x m → HasExpr (f x) (m + k)

    takes_index : Takes HasPart (IsIndex src E D)
    takes_index =
        takes_token (λ o. takes_bind (exprs at.Expression) (λ y m h. takes_token (λ c.
        takes_is (λ x k p. omega (arith, h, p, index_is (line_of x) x o.line y)))))

    takes_arguments : Takes (Together HasExpr) (IsArguments src E D)
    takes_arguments = takes_or (takes_listed expr_more (exprs at.Assignment)) (takes_is tt)

    takes_call : Takes HasPart (IsCall src E D)
    takes_call =
        takes_token (λ o. takes_bind takes_arguments (λ xs m h. takes_token (λ c.
        takes_is (λ x k p. omega (arith, together xs m h, p, call_is (line_of x) x o.line xs)))))

    takes_step : Takes HasPart (IsStep src E D)
    takes_step = takes_token (λ s. takes_is (λ x k p. omega (arith, p, postfix_is (line_of x) x s.1 s.0)))

    takes_postfix : Takes HasExpr (IsPostfix src E D)
    takes_postfix =
        takes_bind takes_primary (λ x m h. takes_grown {P = HasExpr} {Q = HasPart} (λ y part. part y) (λ y k part j p q. q y k p)
        (takes_or takes_index (takes_or takes_call takes_step)) x m h)

    takes_sizeof : Takes HasExpr (IsSizeof src E D)
    takes_sizeof =
        takes_token (λ o. takes_or (takes_then (λ ty m. takes_is (omega (arith, sizeof_type_is o.line ty))))
        (takes_bind (exprs at.Unary) (λ x m h. takes_is (omega (arith, h, sizeof_expr_is o.line x)))))

    takes_prefix : (table : Table PrefixOp) (start : Start) → Takes HasExpr (IsPrefix src E D table start)
    takes_prefix table start = takes_token (λ p. takes_bind (exprs start) (λ x m h. takes_is (omega (arith, h, prefix_is p.0 p.1 x))))

    takes_unary : Takes HasExpr (IsUnary src E D)
    takes_unary = takes_or takes_sizeof (takes_or (takes_prefix step_operators at.Unary) (takes_or (takes_prefix unary_operators at.Cast) takes_postfix))

    takes_typed : Takes HasExpr (IsTyped src E D)
    takes_typed =
        takes_token (λ o. takes_then (λ ty j. takes_token (λ c. takes_bind (exprs at.Cast) (λ x m h.
        takes_is (omega (arith, h, cast_is o.line ty x))))))

    takes_cast : Takes HasExpr (IsCast src E D)
    takes_cast = takes_or takes_typed takes_unary

    abbrev HasOperation : (ℕ × BinaryOp) × Expr → ℕ → Type 0
    HasOperation p k = 1 + tokens p.1 ≤ k

    takes_operation : (table : Table BinaryOp) {S : Spelling Expr} → Takes HasExpr S → Takes HasOperation (IsOperation src E D table S)
    takes_operation table inner = takes_token (λ p. takes_bind inner (λ x m h. takes_is (omega (arith, h))))

    operated_has : (x : Expr) (m : ℕ) (p : (ℕ × BinaryOp) × Expr) (k : ℕ) → HasExpr x m → HasOperation p k → HasExpr (operated src E D x p) (m + k)
    operated_has x m p k h q = omega (arith, h, q, binary_is (line_of x) x p.0.1 p.0.0 p.1)

    takes_level : (level : ℕ) → Takes HasExpr (IsLevel src E D level)
    takes_level zero = takes_cast
    takes_level (suc level) =
        takes_bind (takes_level level) (λ x m h. takes_grown {P = HasExpr} {Q = HasOperation} (operated src E D) operated_has
        (takes_operation (binary_operators level) (takes_level level)) x m h)

    takes_branches : Takes HasPart (IsBranches src E D)
    takes_branches =
        takes_token (λ o. takes_bind (exprs at.Expression) (λ y m h. takes_token (λ c. takes_bind (exprs at.Conditional) (λ z k q.
        takes_is (λ x j p. omega (arith, h, q, p, conditional_is (line_of x) x o.line y z))))))

    takes_conditional : Takes HasExpr (IsConditional src E D)
    takes_conditional =
        takes_bind (takes_level levels) (λ x m h. takes_or (takes_map _ takes_branches (λ f k q. q x m h)) (takes_is (omega (arith, h))))

    takes_assigned : (x : Expr) (m : ℕ) → HasExpr x m → Takes (λ y k. HasExpr y (m + k)) (IsAssigned src E D x)
    takes_assigned x m h =
        takes_token (λ p. takes_bind (exprs at.Assignment) (λ right k q. takes_is (omega (arith, h, q, assign_is (line_of x) x p.1 p.0 right))))

    takes_assignment : Takes HasExpr (IsAssignment src E D)
    takes_assignment = takes_or takes_conditional (takes_bind takes_unary takes_assigned)

    -- the operands in front of the last, and the last
    abbrev HaveOperands : List Expr × Expr → ℕ → Type 0
    HaveOperands p k = (m : ℕ) × Together HasExpr p.0 m × (m + tokens p.1 ≤ k)

    operands_have : (p : List Expr × Expr) (k : ℕ) → HaveOperands p k → HasExpr (comma_node p) k
    operands_have ([], last) k h = omega (arith, h.2)
    operands_have (first ∷ more, last) k h = omega (arith, together (first ∷ more) h.0 h.1, h.2, comma_is (line_of first) (first ∷ more) last)

    operand_more : (p : List Expr × Expr) (m : ℕ) (x : Expr) (k : ℕ) → HaveOperands p m → HasExpr x k → HaveOperands (with_operand p x) (m + k)
    operand_more (dropped, last) m x k h q =
        (h.0 + tokens last, one_more HasExpr dropped h.0 last (tokens last) h.1 (omega arith), omega (arith, h.2, q))

    takes_expression : Takes HasExpr (IsExpression src E D)
    takes_expression =
        takes_bind takes_assignment (λ first m h. takes_bind {P = λ p k. HaveOperands p (m + k)}
        (takes_grown {P = HaveOperands} {Q = HasExpr} with_operand operand_more
        (takes_token (λ c. takes_so takes_assignment expr_more)) ([], first) m (0, tt, omega (arith, h)))
        (λ operands k g. takes_is (omega (arith, operands_have operands (m + k) g))))

    takes_line : (start : Start) → Takes HasExpr (IsExprLine src E D start)
    takes_line at.Expression = takes_expression
    takes_line at.Assignment = takes_assignment
    takes_line at.Conditional = takes_conditional
    takes_line at.Cast = takes_cast
    takes_line at.Unary = takes_unary

  -- ---- by depth

  pub expr_takes : (src : Bytes) (depth : ℕ) (start : Start) → Takes HasExpr (ExprAt src depth start)
  unfolding ExprAt
  expr_takes src zero start = record { takes = λ x w h. absurd h }
  expr_takes src (suc depth) start =
      record { takes = λ x w h. (takes_line src (ExprAt src depth) (DeclaratorAt src depth) (λ a. expr_takes src depth a) start).takes x w h }

-- ---- declarators: one that has a name has a token

abbrev pub HasOne : {A : Type 0} → A → ℕ → Type 0
HasOne x k = 1 ≤ k

module _ (src : Bytes) (E : Start → Spelling Expr) (D : Naming → Spelling Declarator) where
  takes_named : Takes HasOne (IsNamed src E D)
  takes_named = takes_token (λ name. takes_then (λ found m. takes_is (omega arith)))

  takes_nested : Takes HasOne (IsNested src E D n.Named)
  takes_nested = takes_bind {P = HasOne} (takes_token (λ o. takes_then (λ x m. takes_token (λ c. takes_is (omega arith)))))
      (λ inner m h. takes_then (λ found k. takes_is (omega (arith, h))))

  no_pointer_alone : (ps : List Pointer) → Takes HasOne (IsPointerAlone src E D n.Named ps)
  no_pointer_alone ps = record { takes = λ x w h. absurd h }

  takes_declarator : Takes HasOne (IsDeclaratorLine src E D n.Named)
  takes_declarator = record {
    takes = λ x w h.
        let rest : Takes HasOne _ = takes_then (λ ps m. takes_bind {P = HasOne} (takes_or (takes_or takes_named takes_nested) (no_pointer_alone ps))
        (λ found k q. takes_is (omega (arith, q)))) in rest.takes x w h;
  }

pub declarator_takes : (src : Bytes) (depth : ℕ) → Takes HasOne (DeclaratorAt src depth n.Named)
unfolding ExprAt
declarator_takes src zero = record { takes = λ x w h. absurd h }
declarator_takes src (suc depth) = record { takes = λ x w h. (takes_declarator src (ExprAt src depth) (DeclaratorAt src depth)).takes x w h }
