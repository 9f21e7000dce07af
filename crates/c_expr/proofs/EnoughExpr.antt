-- The readers of expressions and declarators do not depend on the depth, where it is at least the number of tokens.
use Rattle.std.proofs.Common.{ℕ, zero, suc, ◌≤◌, arith, not, ◌&&◌, true, List, [], ◌∷◌, Some, None}
use Rattle.c_tree.specs.declared.operator.PrefixOp.{PrefixOp}
use Rattle.c_tree.specs.declared.expression.Expr.{Expr}
use Rattle.c_tree.specs.declared.expression.Declarator.{Declarator}
use Rattle.c_tree.specs.declared.expression.Direct.TheVariants as d
use Rattle.c_tree.specs.declared.expression.Suffix.{Suffix}
use Rattle.c_tree.specs.declared.specifier.Pointer.{Pointer}
use Rattle.c_expr.specs.declared.start.Start.{Start}
use Rattle.c_expr.specs.declared.start.Start.TheVariants as at
use Rattle.c_expr.specs.declared.start.Naming.{Naming}
use Rattle.c_expr.specs.declared.start.Naming.TheVariants as how
use Rattle.c_expr.specs.Codes.{Table, name, step_operators, unary_operators, suffix_starts, levels}
use Rattle.c_expr.specs.Nodes.{Bytes}
use Rattle.c_expr.specs.Grammar.{ExprAt, DeclaratorAt}
use Rattle.c_expr.specs.Nodes.{comma_node, declarator_node}
use Rattle.c_expr.specs.Reading.{Reader, begins, specifiers, pointers, array, parameter, parameters, function, suffix, suffixes, named, nested, bare, core, core_behind, declarator_line, type_name, texts, parenthesized, constant, primary, index, arguments, call, postfix_part, postfix, sizeof, prefix, unary, typed, cast, level, branches, conditional, assigned, assignment, expression, expr_line, expr_at, declarator_at}
use Rattle.c_expr.proofs.Starts.{starts_filled}
use Rattle.c_expr.specs.Reading.{specifier, pointer}
use Rattle.c_expr.proofs.ExprStarts.{starts_expr, starts_declarator}
use Rattle.c_expr.proofs.FoundAt.{found_at}
use Rattle.c_expr.proofs.Enough.{Same, same_seq, same_token, same_after, same_behind, same_is, same_map, same_choose, same_grown, same_located, same_listed, same_in_parens, same_parens_here, same_none}

module _ (src : Bytes) (n : ℕ) (E E' : Start → Reader Expr) (D D' : Naming → Reader Declarator) (he : (start : Start) → Same n (E start) (E' start)) (hd : (naming : Naming) → Same n (D naming) (D' naming)) where
  pub same_specifiers : (k : ℕ) → Same k specifiers specifiers
  unfolding specifiers specifier
  same_specifiers k = same_seq (same_map _ (same_token k _)) (λ x. same_grown _ _ (same_map _ (same_token k _)) (x ∷ []))

  same_pointers : (k : ℕ) → Same k pointers pointers
  unfolding pointers pointer
  same_pointers k = same_grown _ _ (same_behind _ (λ t. same_grown _ _ (same_token k _) _)) []

  same_array : Same (suc n) (array src E D) (array src E' D')
  unfolding array
  same_array = same_after _ (λ t. same_seq (same_choose _ (same_is n None) (same_map Some (he at.Conditional))) (λ size. same_behind _ (λ _. same_is n _)))

  same_parameter : Same n (parameter src E D) (parameter src E' D')
  unfolding parameter
  same_parameter = same_seq (same_specifiers n) (λ ss. same_seq (same_choose _ (same_map Some (hd how.Either)) (same_is n None)) (λ declared. same_is n _))

  same_function : Same (suc n) (function src E D) (function src E' D')
  unfolding function parameters
  same_function = same_after _ (λ t. same_seq (same_choose _ (same_is n []) (same_listed same_parameter)) (λ ps. same_behind _ (λ _. same_is n _)))

  same_suffix : Same (suc n) (suffix src E D) (suffix src E' D')
  unfolding suffix
  same_suffix = same_choose _ same_array same_function

  same_suffixes : (found : List Suffix) → Same (suc n) (suffixes src E D found) (suffixes src E' D' found)
  unfolding suffixes
  same_suffixes found = same_grown _ _ same_suffix found

  same_named : Same (suc n) (named src E D) (named src E' D')
  unfolding named
  same_named = same_behind _ (λ t. same_seq (same_suffixes []) (λ found. same_is (suc n) _))

  same_nested : (naming : Naming) → Same (suc n) (nested src E D naming) (nested src E' D' naming)
  unfolding nested
  same_nested naming = same_seq (same_in_parens (hd naming)) (λ inner. same_seq (same_suffixes []) (λ found. same_is (suc n) _))

  same_bare : Same (suc n) (bare src E D) (bare src E' D')
  unfolding bare
  same_bare = same_seq same_suffix (λ first. same_seq (same_suffixes (first ∷ [])) (λ found. same_is (suc n) _))

  same_core : (naming : Naming) → Same (suc n) (core src E D naming) (core src E' D' naming)
  same_core how.Named = same_choose _ same_named (same_nested how.Named)
  same_core how.Unnamed = same_choose _ (same_nested how.Unnamed) same_bare
  same_core how.Either = same_choose _ same_named (same_choose _ (same_nested how.Either) same_bare)

  same_core_behind : (naming : Naming) (ps : List Pointer) → Same (suc n) (core_behind src E D naming ps) (core_behind src E' D' naming ps)
  unfolding core_behind
  same_core_behind naming [] = same_core naming
  same_core_behind how.Named (p ∷ ps) = same_core how.Named
  same_core_behind how.Unnamed (p ∷ ps) = same_choose (λ w. true && not (begins suffix_starts w)) (same_is (suc n) (d.Unnamed, [])) (same_core how.Unnamed)
  same_core_behind how.Either (p ∷ ps) = same_choose (λ w. true && not (begins (name ∷ suffix_starts) w)) (same_is (suc n) (d.Unnamed, [])) (same_core how.Either)

  same_declarator_line : (naming : Naming) → Same (suc n) (declarator_line src E D naming) (declarator_line src E' D' naming)
  unfolding declarator_line
  same_declarator_line naming = same_located _ _ (λ line. same_seq (same_pointers (suc n)) (λ ps. same_seq (same_core_behind naming ps) (λ found. same_is (suc n) (declarator_node line ps found.0 found.1))))

  same_type_name : Same n (type_name src E D) (type_name src E' D')
  unfolding type_name
  same_type_name = same_seq (same_specifiers n) (λ ss. same_seq (same_choose _ (same_map Some (hd how.Unnamed)) (same_is n None)) (λ declared. same_is n _))

  -- ---- expressions

  same_texts : Same (suc n) (texts src E D) (texts src E' D')
  unfolding texts
  same_texts = same_behind _ (λ first. same_seq (same_grown _ _ (same_token (suc n) _) _) (λ bytes. same_is (suc n) _))

  same_parenthesized : Same (suc n) (parenthesized src E D) (parenthesized src E' D')
  unfolding parenthesized
  same_parenthesized = same_after _ (λ t. same_seq (he at.Expression) (λ x. same_behind _ (λ _. same_is n _)))

  same_primary : Same (suc n) (primary src E D) (primary src E' D')
  unfolding primary constant
  same_primary = same_choose _ (same_map _ (same_token (suc n) _)) (same_choose _ same_texts (same_choose _ same_parenthesized (same_token (suc n) _)))

  same_index : Same (suc n) (index src E D) (index src E' D')
  unfolding index
  same_index = same_after _ (λ t. same_seq (he at.Expression) (λ x. same_behind _ (λ _. same_is n _)))

  same_call : Same (suc n) (call src E D) (call src E' D')
  unfolding call arguments
  same_call = same_after _ (λ t. same_seq (same_choose _ (same_is n []) (same_listed (he at.Assignment))) (λ xs. same_behind _ (λ _. same_is n _)))

  same_part : Same (suc n) (postfix_part src E D) (postfix_part src E' D')
  unfolding postfix_part
  same_part = same_choose _ same_index (same_choose _ same_call (same_map _ (same_token (suc n) _)))

  same_postfix : Same (suc n) (postfix src E D) (postfix src E' D')
  unfolding postfix
  same_postfix = same_seq same_primary (λ x. same_grown _ _ same_part x)

  same_sizeof : Same (suc n) (sizeof src E D) (sizeof src E' D')
  unfolding sizeof
  same_sizeof = same_after _ (λ t. same_choose _ (same_map _ (same_parens_here same_type_name)) (same_map _ (he at.Unary)))

  same_prefix : (table : Table PrefixOp) (start : Start) → Same (suc n) (prefix src E D table start) (prefix src E' D' table start)
  unfolding prefix
  same_prefix table start = same_after _ (λ p. same_seq (he start) (λ x. same_is n _))

  same_unary : Same (suc n) (unary src E D) (unary src E' D')
  unfolding unary
  same_unary = same_choose _ same_sizeof (same_choose _ (same_prefix step_operators at.Unary) (same_choose _ (same_prefix unary_operators at.Cast) same_postfix))

  same_typed : Same (suc n) (typed src E D) (typed src E' D')
  unfolding typed
  same_typed = same_after _ (λ t. same_seq same_type_name (λ ty. same_behind _ (λ _. same_seq (he at.Cast) (λ x. same_is n _))))

  same_cast : Same (suc n) (cast src E D) (cast src E' D')
  unfolding cast
  same_cast = same_choose _ same_typed same_unary

  same_level : (l : ℕ) → Same (suc n) (level src E D l) (level src E' D' l)
  unfolding level
  same_level zero = same_cast
  same_level (suc l) = same_seq (same_level l) (λ x. same_grown _ _ (same_behind _ (λ p. same_seq (same_level l) (λ y. same_is (suc n) (p, y)))) x)

  same_branches : Same (suc n) (branches src E D) (branches src E' D')
  unfolding branches
  same_branches = same_after _ (λ t. same_seq (he at.Expression) (λ first. same_behind _ (λ _. same_seq (he at.Conditional) (λ second. same_is n _))))

  same_conditional : Same (suc n) (conditional src E D) (conditional src E' D')
  unfolding conditional
  same_conditional = same_seq (same_level levels) (λ x. same_choose _ (same_map (λ f. f x) same_branches) (same_is (suc n) x))

  same_assigned : (x : Expr) → Same (suc n) (assigned src E D x) (assigned src E' D' x)
  unfolding assigned
  same_assigned x = same_after _ (λ p. same_seq (he at.Assignment) (λ y. same_is n _))

  same_assignment : Same (suc n) (assignment src E D) (assignment src E' D')
  unfolding assignment
  same_assignment = same_seq same_conditional (λ x. same_choose _ (same_assigned x) (same_is (suc n) x))

  same_expression : Same (suc n) (expression src E D) (expression src E' D')
  unfolding expression
  same_expression = same_seq same_assignment (λ x. same_seq (same_grown _ _ (same_behind _ (λ _. same_assignment)) ([], x)) (λ p. same_is (suc n) (comma_node p)))

  same_expr_line : (start : Start) → Same (suc n) (expr_line src E D start) (expr_line src E' D' start)
  same_expr_line at.Expression = same_expression
  same_expr_line at.Assignment = same_assignment
  same_expr_line at.Conditional = same_conditional
  same_expr_line at.Cast = same_cast
  same_expr_line at.Unary = same_unary

-- ---- at each depth

pub record SameAt (src : Bytes) (n m : ℕ) : Type 0 where
  pub expr : (start : Start) → Same n (expr_at src n start) (expr_at src m start)
  pub declarator : (naming : Naming) → Same n (declarator_at src n naming) (declarator_at src m naming)

pub same_expr_at : (src : Bytes) (n m : ℕ) → n ≤ m → SameAt src n m
unfolding expr_at declarator_at
same_expr_at src zero m le = record {
  expr = λ start. same_none ((found_at src m).expr start) (starts_filled _ (ExprAt src (suc m) start) (starts_expr src (suc m) start));
  declarator = λ naming. same_none ((found_at src m).declarator naming) (starts_filled _ (DeclaratorAt src (suc m) naming) (starts_declarator src (suc m) naming));
}
same_expr_at src (suc n) zero le = absurd (omega arith)
same_expr_at src (suc n) (suc m) le =
    let below = same_expr_at src n m (omega arith) in
    record {
      expr = λ start. same_expr_line src n (expr_at src n) (expr_at src m) (declarator_at src n) (declarator_at src m) below.expr below.declarator start;
      declarator = λ naming. same_declarator_line src n (expr_at src n) (expr_at src m) (declarator_at src n) (declarator_at src m) below.expr below.declarator naming;
    }
