-- What checking makes of each node of a tree, with its lines and parts as the code has them.
use Rattle.std.proofs.Common.{◌≡◌, ℕ, List, map, Option, Some, None, refl, sym, ◌∙◌, ap}
use Rattle.srmt_base.specs.declared.ty.Ty.{Ty}
use Rattle.srmt_base.specs.declared.ty.Ty.TheVariants.{Int}
use Rattle.c_tree.specs.declared.operator.BinaryOp.{BinaryOp}
use Rattle.c_tree.specs.declared.operator.BinaryOp.TheVariants.{Arithmetic, And, Or}
use Rattle.c_tree.specs.declared.operator.CompoundOp.{CompoundOp}
use Rattle.c_tree.specs.declared.operator.PrefixOp.{PrefixOp}
use Rattle.c_tree.specs.declared.operator.PrefixOp.TheVariants as pre
use Rattle.c_tree.specs.declared.operator.PostfixOp.{PostfixOp}
use Rattle.c_tree.specs.declared.operator.PostfixOp.TheVariants as post
use Rattle.c_tree.specs.declared.expression.ExprNode.TheVariants as tn
use Rattle.c_tree.specs.declared.expression.Expr as tree_expr
use Rattle.c_tree.specs.declared.expression.ExprNode as tree_node
use Rattle.c_tree.specs.declared.expression.TypeName as tree_type_name
use Rattle.typing_rules.specs.Source.{Bytes, Expr, at, Node, name, number, character, text, parenthesized, index, call, prefix, postfix, sizeof_expr, sizeof_type, cast, choice, comma, line_of}
use Rattle.typing_rules.specs.SourceViews.{expr_view, node_view, type_name_view, exprs_from, binary_from, assignment_from}
use Rattle.typing_rules.specs.Terms.{result, number_value, sequence_of}
use Rattle.typing_rules.specs.Checking.{◌>>=◌, pure}
use Rattle.typing_rules.specs.OrderedParts.{named, text_term, indexed, chosen, target_of, sized, called, call_of, cast_to, indirect, promoted, negative, complemented, opposite}
use Rattle.typing_rules.specs.Ordered.{term_of, all_of, type_named}
use Rattle.typing_rules.specs.OrderedDeclarations.{value_of}
use Rattle.typing_rules.proofs.SourceViewLaws.{view_name, view_number, view_character, view_text, view_parenthesized, view_index, view_call, view_postfix, view_prefix, view_sizeofexpr, view_sizeoftype, view_cast, view_binary, view_conditional, view_assign, view_comma, view_expr}
use Rattle.c_terms.specs.Nodes.{valued_of, prefix_of, postfix_of, binary_of, assignment_of, sized_of}
use Rattle.c_terms.proofs.Paths.{assoc}

prefix-at : (op : PrefixOp) (line : ℕ) (x : Expr) → term_of (at line (prefix op x)) ≡ (term_of x >>= prefix_of op line (line_of x))
unfolding term_of
prefix-at pre.Increment line x = refl
prefix-at pre.Decrement line x = refl
prefix-at pre.AddressOf line x = refl
prefix-at pre.Indirection line x = assoc (term_of x) (valued_of (line_of x)) (indirect line)
prefix-at pre.Plus line x = assoc (term_of x) (valued_of (line_of x)) (promoted line)
prefix-at pre.Minus line x = assoc (term_of x) (valued_of (line_of x)) (negative line)
prefix-at pre.Complement line x = assoc (term_of x) (valued_of (line_of x)) (complemented line)
prefix-at pre.Not line x = assoc (term_of x) (valued_of (line_of x)) (opposite line)

postfix-at : (op : PostfixOp) (line op_line : ℕ) (x : Expr) → term_of (at line (postfix op op_line x)) ≡ (term_of x >>= postfix_of op line op_line (line_of x))
unfolding term_of
postfix-at post.Increment line op_line x = refl
postfix-at post.Decrement line op_line x = refl

binary-at : (op : BinaryOp) (line op_line : ℕ) (x y : Expr)
    → term_of (at line (binary_from op op_line x y)) ≡ (value_of x >>= (λ v. value_of y >>= (λ w. binary_of op line op_line v w)))
unfolding term_of
binary-at (Arithmetic op) line op_line x y = refl
binary-at And line op_line x y = refl
binary-at Or line op_line x y = refl

assignment-at : (op : Option CompoundOp) (line op_line : ℕ) (x y : Expr)
    → term_of (at line (assignment_from op op_line x y))
    ≡ (term_of x >>= (λ t. target_of t >>= (λ u. value_of y >>= (λ w. assignment_of op line (line_of x) op_line u w))))
unfolding term_of
assignment-at None line op_line x y = refl
assignment-at (Some op) line op_line x y = refl

module _ (shift : ℕ → ℕ) where
  -- a node with its line
  node-at : (x : tree_expr.Expr) (n : tree_node.ExprNode) (m : Node) (line : ℕ)
      → line ≡ shift x.line → x.node ≡ n → node_view shift n ≡ m → expr_view shift x ≡ at line m
  node-at x n m line same is view = view_expr shift x ∙ (λ i. at (sym same i) (node_view shift (is i))) ∙ ap (at line) view

  pub line-is : (x : tree_expr.Expr) (line : ℕ) → line ≡ shift x.line → line_of (expr_view shift x) ≡ line
  line-is x line same = ap line_of (view_expr shift x) ∙ sym same

  pub value-is : (x : tree_expr.Expr) (line : ℕ) → line ≡ shift x.line → value_of (expr_view shift x) ≡ (term_of (expr_view shift x) >>= valued_of line)
  value-is x line same = ap (λ l. term_of (expr_view shift x) >>= valued_of l) (line-is x line same)

  pub name-term : (x : tree_expr.Expr) (bytes : Bytes) (line : ℕ) → line ≡ shift x.line → x.node ≡ tn.Name bytes → term_of (expr_view shift x) ≡ named line bytes
  unfolding term_of
  name-term x bytes line same is = ap term_of (node-at x (tn.Name bytes) (name bytes) line same is (view_name shift bytes))

  pub number-term : (x : tree_expr.Expr) (ty : Ty) (n line : ℕ) → line ≡ shift x.line → x.node ≡ tn.Number ty n
      → term_of (expr_view shift x) ≡ pure (result (number_value line ty n))
  unfolding term_of
  number-term x ty n line same is = ap term_of (node-at x (tn.Number ty n) (number ty n) line same is (view_number shift ty n))

  pub character-term : (x : tree_expr.Expr) (n line : ℕ) → line ≡ shift x.line → x.node ≡ tn.Character n
      → term_of (expr_view shift x) ≡ pure (result (number_value line Int n))
  unfolding term_of
  character-term x n line same is = ap term_of (node-at x (tn.Character n) (character n) line same is (view_character shift n))

  pub text-is : (x : tree_expr.Expr) (bytes : Bytes) (line : ℕ) → line ≡ shift x.line → x.node ≡ tn.Text bytes → term_of (expr_view shift x) ≡ text_term line bytes
  unfolding term_of
  text-is x bytes line same is = ap term_of (node-at x (tn.Text bytes) (text bytes) line same is (view_text shift bytes))

  pub parenthesized-term : (x y : tree_expr.Expr) → x.node ≡ tn.Parenthesized y → term_of (expr_view shift x) ≡ term_of (expr_view shift y)
  unfolding term_of
  parenthesized-term x y is = ap term_of (node-at x (tn.Parenthesized y) (parenthesized (expr_view shift y)) (shift x.line) refl is (view_parenthesized shift y))

  pub index-term : (x a b : tree_expr.Expr) (line op op_line : ℕ) → line ≡ shift x.line → op_line ≡ shift op → x.node ≡ tn.Index a op b
      → term_of (expr_view shift x) ≡ (value_of (expr_view shift a) >>= (λ v. value_of (expr_view shift b) >>= (λ w. indexed line op_line v w)))
  unfolding term_of
  index-term x a b line op op_line same op_same is =
      ap term_of (node-at x (tn.Index a op b) (index (expr_view shift a) op_line (expr_view shift b)) line same is
      (view_index shift a op b ∙ ap (λ l. index (expr_view shift a) l (expr_view shift b)) (sym op_same)))

  pub call-term : (x f : tree_expr.Expr) (xs : List tree_expr.Expr) (line op op_line : ℕ) → line ≡ shift x.line → op_line ≡ shift op → x.node ≡ tn.Call f op xs
      → term_of (expr_view shift x)
      ≡ (term_of (expr_view shift f) >>= (λ t. called t >>= (λ u. all_of (exprs_from (map (expr_view shift) xs)) >>= (λ ws. call_of line op_line u ws))))
  unfolding term_of
  call-term x f xs line op op_line same op_same is =
      ap term_of (node-at x (tn.Call f op xs) (call (expr_view shift f) op_line (exprs_from (map (expr_view shift) xs))) line same is
      (view_call shift f op xs ∙ ap (λ l. call (expr_view shift f) l (exprs_from (map (expr_view shift) xs))) (sym op_same)))

  pub postfix-term : (x a : tree_expr.Expr) (op : PostfixOp) (line first on op_line : ℕ) → line ≡ shift x.line → first ≡ shift a.line → op_line ≡ shift on → x.node ≡ tn.Postfix a op on
      → term_of (expr_view shift x) ≡ (term_of (expr_view shift a) >>= postfix_of op line op_line first)
  postfix-term x a op line first on op_line same first_same op_same is =
      ap term_of (node-at x (tn.Postfix a op on) (postfix op op_line (expr_view shift a)) line same is
      (view_postfix shift a op on ∙ ap (λ l. postfix op l (expr_view shift a)) (sym op_same)))
      ∙ postfix-at op line op_line (expr_view shift a)
      ∙ ap (λ l. term_of (expr_view shift a) >>= postfix_of op line op_line l) (line-is a first first_same)

  pub prefix-term : (x a : tree_expr.Expr) (op : PrefixOp) (line first : ℕ) → line ≡ shift x.line → first ≡ shift a.line → x.node ≡ tn.Prefix op a
      → term_of (expr_view shift x) ≡ (term_of (expr_view shift a) >>= prefix_of op line first)
  prefix-term x a op line first same first_same is =
      ap term_of (node-at x (tn.Prefix op a) (prefix op (expr_view shift a)) line same is (view_prefix shift op a))
      ∙ prefix-at op line (expr_view shift a)
      ∙ ap (λ l. term_of (expr_view shift a) >>= prefix_of op line l) (line-is a first first_same)

  pub sizeof-term : (x a : tree_expr.Expr) (line : ℕ) → line ≡ shift x.line → x.node ≡ tn.SizeofExpr a
      → term_of (expr_view shift x) ≡ (term_of (expr_view shift a) >>= sized_of line)
  unfolding term_of
  sizeof-term x a line same is = ap term_of (node-at x (tn.SizeofExpr a) (sizeof_expr (expr_view shift a)) line same is (view_sizeofexpr shift a))

  pub sizeof-type-term : (x : tree_expr.Expr) (t : tree_type_name.TypeName) (line : ℕ) → line ≡ shift x.line → x.node ≡ tn.SizeofType t
      → term_of (expr_view shift x) ≡ (type_named (type_name_view shift t) >>= (λ q. sized line q.type))
  unfolding term_of
  sizeof-type-term x t line same is = ap term_of (node-at x (tn.SizeofType t) (sizeof_type (type_name_view shift t)) line same is (view_sizeoftype shift t))

  pub cast-term : (x a : tree_expr.Expr) (t : tree_type_name.TypeName) (line : ℕ) → line ≡ shift x.line → x.node ≡ tn.Cast t a
      → term_of (expr_view shift x) ≡ (type_named (type_name_view shift t) >>= (λ q. value_of (expr_view shift a) >>= (λ w. cast_to line q w)))
  unfolding term_of
  cast-term x a t line same is = ap term_of (node-at x (tn.Cast t a) (cast (type_name_view shift t) (expr_view shift a)) line same is (view_cast shift t a))

  pub binary-term : (x a b : tree_expr.Expr) (op : BinaryOp) (line on op_line : ℕ) → line ≡ shift x.line → op_line ≡ shift on → x.node ≡ tn.Binary a op on b
      → term_of (expr_view shift x) ≡ (value_of (expr_view shift a) >>= (λ v. value_of (expr_view shift b) >>= (λ w. binary_of op line op_line v w)))
  binary-term x a b op line on op_line same op_same is =
      ap term_of (node-at x (tn.Binary a op on b) (binary_from op op_line (expr_view shift a) (expr_view shift b)) line same is
      (view_binary shift a op on b ∙ ap (λ l. binary_from op l (expr_view shift a) (expr_view shift b)) (sym op_same)))
      ∙ binary-at op line op_line (expr_view shift a) (expr_view shift b)

  pub choice-term : (x c a b : tree_expr.Expr) (line on op_line : ℕ) → line ≡ shift x.line → op_line ≡ shift on → x.node ≡ tn.Conditional c on a b
      → term_of (expr_view shift x)
      ≡ (value_of (expr_view shift c) >>= (λ u. value_of (expr_view shift a) >>= (λ v. value_of (expr_view shift b) >>= (λ w. chosen line op_line u v w))))
  unfolding term_of
  choice-term x c a b line on op_line same op_same is =
      ap term_of (node-at x (tn.Conditional c on a b) (choice op_line (expr_view shift c) (expr_view shift a) (expr_view shift b)) line same is
      (view_conditional shift c on a b ∙ ap (λ l. choice l (expr_view shift c) (expr_view shift a) (expr_view shift b)) (sym op_same)))

  pub assignment-term : (x a b : tree_expr.Expr) (op : Option CompoundOp) (line first on op_line : ℕ) → line ≡ shift x.line → first ≡ shift a.line → op_line ≡ shift on
      → x.node ≡ tn.Assign a op on b
      → term_of (expr_view shift x)
      ≡ (term_of (expr_view shift a) >>= (λ t. target_of t >>= (λ u. value_of (expr_view shift b) >>= (λ w. assignment_of op line first op_line u w))))
  assignment-term x a b op line first on op_line same first_same op_same is =
      ap term_of (node-at x (tn.Assign a op on b) (assignment_from op op_line (expr_view shift a) (expr_view shift b)) line same is
      (view_assign shift a op on b ∙ ap (λ l. assignment_from op l (expr_view shift a) (expr_view shift b)) (sym op_same)))
      ∙ assignment-at op line op_line (expr_view shift a) (expr_view shift b)
      ∙ ap (λ l. term_of (expr_view shift a) >>= (λ t. target_of t >>= (λ u. value_of (expr_view shift b) >>= (λ w. assignment_of op line l op_line u w))))
      (line-is a first first_same)

  pub comma-term : (x b : tree_expr.Expr) (xs : List tree_expr.Expr) (line : ℕ) → line ≡ shift x.line → x.node ≡ tn.Comma xs b
      → term_of (expr_view shift x)
      ≡ (all_of (exprs_from (map (expr_view shift) xs)) >>= (λ ws. value_of (expr_view shift b) >>= (λ w. pure (result (sequence_of line ws w)))))
  unfolding term_of
  comma-term x b xs line same is =
      ap term_of (node-at x (tn.Comma xs b) (comma (exprs_from (map (expr_view shift) xs)) (expr_view shift b)) line same is (view_comma shift xs b))
