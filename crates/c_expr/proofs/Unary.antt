-- Which conditional expressions are unary expressions: those whose node is that of one.
use Rattle.std.proofs.Common.{◌≡◌, ℕ, zero, suc, Bool, true, false, List, [], ◌∷◌, ◌++◌, refl, ap, sym, ◌∙◌, Some, option_map, fold, subst, inl, inr}
use Rattle.std.proofs.lemmas.List.{append-nil}
use Rattle.c_lexer.specs.declared.token.Token.{Token}
use Rattle.c_lexer.specs.declared.token.TokenKind.{TokenKind}
use Rattle.c_lexer.specs.declared.token.TokenKind.TheVariants.{Keyword, Name, Number, Character, Text, Punct}
use Rattle.srmt_base.specs.declared.ty.Ty.{Ty}
use Rattle.c_tree.specs.declared.operator.PrefixOp.{PrefixOp}
use Rattle.c_tree.specs.declared.expression.Expr.{Expr}
use Rattle.c_tree.specs.declared.expression.Declarator.{Declarator}
use Rattle.c_expr.specs.declared.start.Start.{Start}
use Rattle.c_expr.specs.declared.start.Naming.{Naming}
use Rattle.c_expr.specs.Codes.{binary_operators, levels}
use Rattle.c_expr.specs.Spelling.{Spelling, Is, Many, ◌or◌}
use Rattle.c_expr.specs.Nodes.{Bytes, constant_node, at_line}
use Rattle.c_expr.specs.Grammar.{IsPrimary, IsIndex, IsCall, IsStep, IsUnary, IsOperation, IsLevel, IsConditional, IsAssigned}
use Rattle.c_tree.specs.declared.expression.ExprNode.{out-ExprNode}
use Rattle.c_tree.specs.declared.expression.ExprNode.TheVariants as e
use Rattle.c_tree.specs.declared.expression.TypeName.{TypeName}
use Rattle.c_tree.specs.declared.operator.PostfixOp.{PostfixOp}
use Rattle.c_tree.specs.declared.operator.BinaryOp.{BinaryOp}
use denote.Hole
use Rattle.c_expr.specs.Nodes.{is_unary, name_node, text_node, parenthesized_node, index_node, call_node, postfix_node, prefix_node, sizeof_expr_node, sizeof_type_node, binary_node, conditional_node, cast_node}
use Rattle.c_expr.specs.Grammar.{operated}
use Rattle.c_expr.proofs.Alike.{false_is_not_true, some_same}

abbrev Unary : Expr → Type 0
Unary x = is_unary x ≡ true

abbrev Other : Expr → Type 0
Other x = is_unary x ≡ false

name_unary : (src : Bytes) (t : Token) → Unary (name_node src t)
unfolding is_unary at_line out-ExprNode denote.Hole.Carrier.out
name_unary src t = refl

text_unary : (t : Token) (bytes : Bytes) → Unary (text_node t bytes)
unfolding is_unary at_line out-ExprNode denote.Hole.Carrier.out
text_unary t bytes = refl

number_unary : (line : ℕ) (ty : Ty) (v : ℕ) → Unary (at_line line (e.Number ty v))
unfolding is_unary at_line out-ExprNode denote.Hole.Carrier.out
number_unary line ty v = refl

character_unary : (line v : ℕ) → Unary (at_line line (e.Character v))
unfolding is_unary at_line out-ExprNode denote.Hole.Carrier.out
character_unary line v = refl

parenthesized_unary : (line : ℕ) (x : Expr) → Unary (parenthesized_node line x)
unfolding is_unary at_line out-ExprNode denote.Hole.Carrier.out
parenthesized_unary line x = refl

index_unary : (line : ℕ) (i x : Expr) → Unary (index_node line i x)
unfolding is_unary at_line out-ExprNode denote.Hole.Carrier.out
index_unary line i x = refl

call_unary : (line : ℕ) (xs : List Expr) (x : Expr) → Unary (call_node line xs x)
unfolding is_unary at_line out-ExprNode denote.Hole.Carrier.out
call_unary line xs x = refl

postfix_unary : (line : ℕ) (op : PostfixOp) (x : Expr) → Unary (postfix_node line op x)
unfolding is_unary at_line out-ExprNode denote.Hole.Carrier.out
postfix_unary line op x = refl

prefix_unary : (line : ℕ) (op : PrefixOp) (x : Expr) → Unary (prefix_node line op x)
unfolding is_unary at_line out-ExprNode denote.Hole.Carrier.out
prefix_unary line op x = refl

sizeof_expr_unary : (line : ℕ) (x : Expr) → Unary (sizeof_expr_node line x)
unfolding is_unary at_line out-ExprNode denote.Hole.Carrier.out
sizeof_expr_unary line x = refl

sizeof_type_unary : (line : ℕ) (ty : TypeName) → Unary (sizeof_type_node line ty)
unfolding is_unary at_line out-ExprNode denote.Hole.Carrier.out
sizeof_type_unary line ty = refl

cast_other : (line : ℕ) (ty : TypeName) (x : Expr) → Other (cast_node line ty x)
unfolding is_unary at_line out-ExprNode denote.Hole.Carrier.out
cast_other line ty x = refl

binary_other : (x : Expr) (line : ℕ) (op : BinaryOp) (y : Expr) → Other (binary_node x line op y)
unfolding is_unary at_line out-ExprNode denote.Hole.Carrier.out
binary_other x line op y = refl

conditional_other : (x : Expr) (line : ℕ) (y z : Expr) → Other (conditional_node x line y z)
unfolding is_unary at_line out-ExprNode denote.Hole.Carrier.out
conditional_other x line y z = refl

pub same_word : {A : Type 0} (S : Spelling A) (x y : A) (w front back : List Token) → x ≡ y → w ≡ front ++ back → back ≡ [] → S y front → S x w
same_word S x y w front back e d f h =
    let P : List Token → Type 0 = λ v. S x v in
    let Q : _ → Type 0 = λ z. S z front in
    subst P (sym (d ∙ (ap (λ v. front ++ v) f ∙ append-nil front))) (subst Q (sym e) h)

module _ (src : Bytes) (SE : Start → Spelling Expr) (SD : Naming → Spelling Declarator) where
  -- ---- a unary expression is a conditional one

  pub level_of_unary : (level : ℕ) (x : Expr) (w : List Token) → IsUnary src SE SD x w → IsLevel src SE SD level x w
  level_of_unary zero x w h = inr h
  level_of_unary (suc level) x w h = record { of = x; front = w; back = []; parts = sym (append-nil w); first = level_of_unary level x w h; second = ([], refl, refl) }

  pub conditional_of_unary : (x : Expr) (w : List Token) → IsUnary src SE SD x w → IsConditional src SE SD x w
  conditional_of_unary x w h = record { of = x; front = w; back = []; parts = sym (append-nil w); first = level_of_unary levels x w h; second = inr (refl, refl) }

  -- ---- its node

  part_unary : (part : Expr → Expr) (w : List Token) (x : Expr) → (IsIndex src SE SD or IsCall src SE SD or IsStep src SE SD) part w → Unary (part x)
  part_unary part w x (inl h) = ap (λ f. is_unary (f x)) h.second.second.second.0 ∙ index_unary h.of.line h.second.of x
  part_unary part w x (inr (inl h)) = ap (λ f. is_unary (f x)) h.second.second.second.0 ∙ call_unary h.of.line h.second.of x
  part_unary part w x (inr (inr h)) = ap (λ f. is_unary (f x)) h.second.0 ∙ postfix_unary h.of.0 h.of.1 x

  parts_unary : (parts : List (Expr → Expr)) (w : List Token) (x : Expr) → Many (IsIndex src SE SD or IsCall src SE SD or IsStep src SE SD) parts w → Unary x → Unary (fold (λ y part. part y) x parts)
  parts_unary [] w x h u = u
  parts_unary (part ∷ parts) w x h u = parts_unary parts h.1 (part x) h.4 (part_unary part h.0 x h.3)

  constant_unary : (kind : TokenKind) (line : ℕ) (x : Expr) → option_map (at_line line) (constant_node kind) ≡ Some x → Unary x
  constant_unary (Number ty v) line x d = ap is_unary (sym (some_same d)) ∙ number_unary line ty v
  constant_unary (Character v) line x d = ap is_unary (sym (some_same d)) ∙ character_unary line v
  constant_unary Name line x d = absurd (cc)
  constant_unary Text line x d = absurd (cc)
  constant_unary (Keyword i) line x d = absurd (cc)
  constant_unary (Punct i) line x d = absurd (cc)

  primary_unary : (x : Expr) (w : List Token) → IsPrimary src SE SD x w → Unary x
  primary_unary x w (inl h) = ap is_unary h.second.0 ∙ name_unary src h.of
  primary_unary x w (inr (inl h)) = ap is_unary h.second.second.0 ∙ text_unary h.of h.second.of
  primary_unary x w (inr (inr (inl h))) = ap is_unary h.second.second.second.0 ∙ parenthesized_unary h.of.line h.second.of
  primary_unary x w (inr (inr (inr h))) = constant_unary h.0.kind h.0.line x h.2

  pub unary_is_unary : (x : Expr) (w : List Token) → IsUnary src SE SD x w → Unary x
  unary_is_unary x w (inl h) = elim h.second [
    | inl s ↦ ap is_unary s.second.0 ∙ sizeof_type_unary h.of.line s.of
    | inr s ↦ ap is_unary s.second.0 ∙ sizeof_expr_unary h.of.line s.of
  ]
  unary_is_unary x w (inr (inl h)) = ap is_unary h.second.second.0 ∙ prefix_unary h.of.0 h.of.1 h.second.of
  unary_is_unary x w (inr (inr (inl h))) = ap is_unary h.second.second.0 ∙ prefix_unary h.of.0 h.of.1 h.second.of
  unary_is_unary x w (inr (inr (inr h))) = ap is_unary h.second.2 ∙ parts_unary h.second.0 h.back h.of h.second.1 (primary_unary h.of h.front h.first)

  -- ---- a conditional expression with such a node is a unary one

  operated_other : (x : Expr) (ps : List ((ℕ × BinaryOp) × Expr)) → Other x → Other (fold (operated src SE SD) x ps)
  operated_other x [] o = o
  operated_other x (p ∷ ps) o = operated_other (binary_node x p.0.0 p.0.1 p.1) ps (binary_other x p.0.0 p.0.1 p.1)

  not_both : (x : Expr) → Unary x → Other x → ⊥
  not_both x u o = false_is_not_true (sym o ∙ u)

  unary_of_level : (level : ℕ) (x : Expr) (w : List Token) → IsLevel src SE SD level x w → Unary x → IsUnary src SE SD x w
  unary_of_level zero x w (inl h) u = absurd (not_both x u (ap is_unary h.second.second.second.second.0 ∙ cast_other h.of.line h.second.of h.second.second.second.of))
  unary_of_level zero x w (inr h) u = h
  unary_of_level (suc level) x w h u = grown_level h.second.0 h.second.1 h.second.2 (λ v d. unary_of_level level h.of h.front h.first (sym (ap is_unary d) ∙ u))
    where
      grown_level : (ps : List ((ℕ × BinaryOp) × Expr)) → Many (IsOperation src SE SD (binary_operators level) (IsLevel src SE SD level)) ps h.back → x ≡ fold (operated src SE SD) h.of ps → ((v : ℕ) → x ≡ h.of → IsUnary src SE SD h.of h.front) → IsUnary src SE SD x w
      grown_level [] m e before = same_word (IsUnary src SE SD) x h.of w h.front h.back e h.parts m (before 0 e)
      grown_level (p ∷ ps) m e before = absurd (not_both x u (ap is_unary e ∙ operated_other (binary_node h.of p.0.0 p.0.1 p.1) ps (binary_other h.of p.0.0 p.0.1 p.1)))

  pub unary_of_conditional : (x : Expr) (w : List Token) → IsConditional src SE SD x w → Unary x → IsUnary src SE SD x w
  unary_of_conditional x w h u = elim h.second [
    | inl b ↦ absurd (not_both x u (ap is_unary b.second.0 ∙ (ap (λ f. is_unary (f h.of)) b.first.second.second.second.second.0 ∙ conditional_other h.of b.first.of.line b.first.second.of b.first.second.second.second.of)))
    | inr i ↦ same_word (IsUnary src SE SD) x h.of w h.front h.back i.0 h.parts i.1 (unary_of_level levels h.of h.front h.first (sym (ap is_unary i.0) ∙ u))
  ]

  -- what stands behind a conditional expression, where it may be a left side
  abbrev pub behind_left : Bool → Expr → Spelling Expr
  behind_left true x = IsAssigned src SE SD x or Is x
  behind_left false x = Is x
