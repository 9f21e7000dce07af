-- The readers of expressions and declarators find what is spelled, and refuse where nothing can go on.
use Rattle.std.proofs.Common.{◌≡◌, ℕ, suc, ◌+◌, ◌<◌, length, arith, length-append, not, ◌&&◌, Bool, true, false, List, [], ◌∷◌, ◌++◌, refl, ap, sym, ◌∙◌, Some, None, inl, inr}
use Rattle.std.proofs.lemmas.List.{append_assoc}
use Rattle.c_lexer.specs.declared.token.Token.{Token}
use Rattle.c_lexer.specs.declared.token.TokenKind.{TokenKind}
use Rattle.c_lexer.specs.declared.token.TokenKind.TheVariants.{Keyword, Name, Character, Text, Punct}
use Rattle.c_tree.specs.declared.operator.PrefixOp.{PrefixOp}
use Rattle.c_tree.specs.declared.operator.BinaryOp.{BinaryOp}
use Rattle.c_tree.specs.declared.expression.Expr.{Expr}
use Rattle.c_tree.specs.declared.expression.Declarator.{Declarator}
use Rattle.c_tree.specs.declared.expression.Direct.TheVariants as d
use Rattle.c_tree.specs.declared.expression.Suffix.{Suffix}
use Rattle.c_tree.specs.declared.specifier.Pointer.{Pointer}
use Rattle.c_expr.specs.declared.start.Start.{Start}
use Rattle.c_expr.specs.declared.start.Start.TheVariants as at
use Rattle.c_expr.specs.declared.start.Naming.{Naming}
use Rattle.c_expr.specs.declared.start.Naming.TheVariants as how
use Rattle.c_expr.specs.Codes.{Table, kinds, name, text, open_bracket, open_paren, sizeof_word, step_operators, unary_operators, postfix_operators, postfix_starts, suffix_starts, declarator_starts, binary_operators, levels}
use Rattle.c_expr.specs.Spelling.{Spelling, One, Sign, Is, Sequence, Further, Listed, In_parens, ◌or◌}
use Rattle.c_expr.specs.Nodes.{Bytes}
use Rattle.c_expr.specs.Grammar.{IsArray, IsParameter, IsFunction, IsSuffix, IsNamed, IsNested, IsBare, IsCore, IsPointerAlone, IsDeclaratorLine, IsTypeName, IsConstant, IsTexts, IsParenthesized, IsPrimary, IsIndex, IsCall, IsStep, IsPostfix, IsSizeof, IsPrefix, IsUnary, IsTyped, IsCast, IsOperation, IsLevel, IsConditional, IsAssigned, IsAssignment, IsExpression, IsExprLine}
use Rattle.c_expr.specs.Codes.{close_bracket, close_paren, question, colon, comma, of_table, assignment_operators, abstract_starts}
use Rattle.c_expr.specs.Nodes.{name_node, text_node, text_of, parenthesized_node, index_node, call_node, postfix_node, prefix_node, sizeof_expr_node, sizeof_type_node, cast_node, assign_node, comma_node, with_operand, is_unary, type_node, parameter_node, direct_name, declarator_node}
use Rattle.c_expr.specs.Grammar.{IsBranches, IsArguments}
use Rattle.c_expr.specs.Reading.{Reader, begins, and_then, sign, pure, choose, in_parens, pointers, begins_type, encloses, array, parameter, parameters, function, suffix, suffixes, named, nested, bare, core, core_starts, may_end, core_behind, declarator_line, type_name, texts, parenthesized, constant, primary, index, arguments, call, postfix_part, postfix, sizeof, prefix, unary, typed, cast, level, branches, conditional, assigned, assignment, expression, expr_line}
use Rattle.c_expr.proofs.Alike.{Heads, begins_alike}
use Rattle.c_expr.proofs.Sound.{Reads, reads_is, reads_choose, reads_token, reads_wider}
use Rattle.c_expr.proofs.Repeat.{Filled}
use Rattle.c_expr.proofs.Peek.{Past, reads_peek, reads_located}
use Rattle.c_expr.proofs.Past.{past_seq, past_first, past_other, past_this, steady_encloses, encloses_first, steady_type, type_first}
use Rattle.c_expr.proofs.Starts.{Starts, starts_filled, starts_one, starts_sign, starts_sequence}
use Rattle.c_expr.proofs.Short.{reads_seq, reads_after, reads_map, reads_if, reads_swap, reads_repeat, reads_one, reads_sign, heads_begins, of}
use Rattle.c_expr.proofs.Words.{reads_specifiers, reads_pointers, reads_listed, reads_in_parens, starts_comma}
use Rattle.c_expr.proofs.Unary.{unary_of_conditional, same_word, behind_left}
use Rattle.c_expr.proofs.ExprStarts.{expr_starts, primary_starts, starts_suffix, starts_bare, starts_nested, on_line, filled_line, moved, starts_part, starts_unary, starts_typed, starts_in_parens, starts_primary}

module _ (src : Bytes) (n : ℕ) (SE : Start → Spelling Expr) (SD : Naming → Spelling Declarator) (E : Start → Reader Expr) (D : Naming → Reader Declarator)
    (he : (start : Start) → Reads n (SE start) (E start)) (hd : (naming : Naming) → Reads n (SD naming) (D naming))
    (se : (start : Start) → Starts expr_starts (SE start)) (pe : Past n (begins (open_paren ∷ [])) (E at.Unary)) where
  -- ---- declarators

  pub reads_array : Reads (suc n) (IsArray src SE SD) (array src E D)
  unfolding array
  reads_array = reads_after (reads_one (suc n) open_bracket (Punct 0) refl) (λ t.
      reads_seq (reads_swap (reads_if (close_bracket ∷ []) (reads_is n None) (reads_map Some (he at.Conditional)))) (λ size.
      reads_seq (reads_one n close_bracket (Punct 1) refl) (λ _. reads_is n _)))

  pub reads_parameter : Reads n (IsParameter src SE SD) (parameter src E D)
  unfolding parameter
  reads_parameter = reads_seq (reads_specifiers n) (λ ss.
      reads_seq (reads_if declarator_starts (reads_map Some (hd how.Either)) (reads_is n None)) (λ declared. reads_is n (parameter_node ss declared)))

  pub reads_parameters : Reads n (Listed (IsParameter src SE SD)) (parameters src E D)
  unfolding parameters
  reads_parameters = reads_listed reads_parameter

  pub reads_function : Reads (suc n) (IsFunction src SE SD) (function src E D)
  unfolding function
  reads_function = reads_after (reads_one (suc n) open_paren (Punct 2) refl) (λ t.
      reads_seq (reads_swap (reads_if (close_paren ∷ []) (reads_is n []) reads_parameters)) (λ ps.
      reads_seq (reads_one n close_paren (Punct 3) refl) (λ _. reads_is n _)))

  pub reads_suffix : Reads (suc n) (IsSuffix src SE SD) (suffix src E D)
  unfolding suffix
  reads_suffix = reads_if (open_bracket ∷ []) reads_array reads_function

  pub reads_suffixes : (found : List Suffix) → Reads (suc n) (Further (IsSuffix src SE SD) found) (suffixes src E D found)
  unfolding suffixes
  reads_suffixes found = reads_repeat suffix_starts _ reads_suffix (starts_filled suffix_starts (IsSuffix src SE SD) (starts_suffix src SE SD)) found

  pub reads_named : Reads (suc n) (IsNamed src SE SD) (named src E D)
  unfolding named
  reads_named = reads_seq (reads_one (suc n) name Name refl) (λ t. reads_seq (reads_suffixes []) (λ found. reads_is (suc n) (direct_name src t, found)))

  pub reads_nested : (naming : Naming) → Reads (suc n) (IsNested src SE SD naming) (nested src E D naming)
  unfolding nested
  reads_nested naming = reads_seq (reads_in_parens (hd naming)) (λ inner. reads_seq (reads_suffixes []) (λ found. reads_is (suc n) _))

  pub reads_bare : Reads (suc n) (IsBare src SE SD) (bare src E D)
  unfolding bare
  reads_bare = reads_wider (suc n) (Sequence (IsSuffix src SE SD) (λ first. Sequence (Further (IsSuffix src SE SD) (first ∷ [])) (λ found. Is (d.Unnamed, found)))) (IsBare src SE SD) (bare src E D)
      (λ x w h. record {
        of = h.second.of;
        front = h.front ++ h.second.front;
        back = h.second.back;
        parts = h.parts ∙ (ap (λ v. h.front ++ v) h.second.parts ∙ sym (append_assoc h.front h.second.front h.second.back));
        first = record { of = h.of; front = h.front; back = h.second.front; parts = refl; first = h.first; second = h.second.first };
        second = h.second.second;
      })
      (reads_seq reads_suffix (λ first. reads_seq (reads_suffixes (first ∷ [])) (λ found. reads_is (suc n) (d.Unnamed, found))))

  past_nested : (naming : Naming) → Past (suc n) (begins (open_paren ∷ [])) (nested src E D naming)
  unfolding nested
  past_nested naming = past_seq (past_first (suc n) n open_paren (omega arith) (λ _. reads_seq (hd naming) (λ x. reads_seq (reads_one n close_paren (Punct 3) refl) (λ _. reads_is n x))))
      (reads_in_parens (hd naming)) (starts_filled (open_paren ∷ []) (In_parens (SD naming)) (starts_in_parens src SE SD (SD naming))) (λ inner. reads_seq (reads_suffixes []) (λ found. reads_is (suc n) _))

  past_suffix : Past (suc n) (begins (open_paren ∷ [])) (suffix src E D)
  unfolding suffix function
  past_suffix = past_other (open_paren ∷ []) (open_bracket ∷ []) _ refl (past_first (suc n) n open_paren (omega arith) (λ t.
      reads_seq (reads_swap (reads_if (close_paren ∷ []) (reads_is n []) reads_parameters)) (λ ps. reads_seq (reads_one n close_paren (Punct 3) refl) (λ _. reads_is n _))))

  past_bare : Past (suc n) (begins (open_paren ∷ [])) (bare src E D)
  unfolding bare
  past_bare = past_seq past_suffix reads_suffix (starts_filled suffix_starts (IsSuffix src SE SD) (starts_suffix src SE SD)) (λ first. reads_seq (reads_suffixes (first ∷ [])) (λ found. reads_is (suc n) (d.Unnamed, found)))

  reads_unnamed : (naming : Naming) → Reads (suc n) (IsNested src SE SD naming or IsBare src SE SD) (choose encloses (nested src E D naming) (bare src E D))
  reads_unnamed naming = reads_peek (suc n) encloses (begins (open_paren ∷ [])) (IsNested src SE SD naming) (IsBare src SE SD) (nested src E D naming) (bare src E D) (reads_nested naming) reads_bare
      steady_encloses (heads_begins (open_paren ∷ [])) encloses_first
      (starts_filled (open_paren ∷ []) (IsNested src SE SD naming) (starts_nested src SE SD naming)) (starts_filled suffix_starts (IsBare src SE SD) (starts_bare src SE SD)) (past_nested naming) past_bare

  reads_core : (naming : Naming) → Reads (suc n) (IsCore src SE SD naming) (core src E D naming)
  reads_core how.Named = reads_if (name ∷ []) reads_named (reads_nested how.Named)
  reads_core how.Unnamed = reads_unnamed how.Unnamed
  reads_core how.Either = reads_if (name ∷ []) reads_named (reads_unnamed how.Either)

  heads_end : (naming : Naming) → Heads (λ w. may_end src E D naming && not (begins (core_starts src E D naming) w))
  heads_end naming r s alike = ap (λ b. may_end src E D naming && not b) (begins_alike (core_starts src E D naming) r s alike)

  -- behind at least one pointer
  reads_end : (naming : Naming) (p : Pointer) (ps : List Pointer) → Reads (suc n) (IsCore src SE SD naming or IsPointerAlone src SE SD naming (p ∷ ps)) (core_behind src E D naming (p ∷ ps))
  unfolding core_behind
  reads_end how.Named p ps = reads_wider (suc n) (IsCore src SE SD how.Named) (IsCore src SE SD how.Named or IsPointerAlone src SE SD how.Named (p ∷ ps)) (core src E D how.Named) (λ x w h. inl h) (reads_core how.Named)
  reads_end how.Unnamed p ps = reads_swap (reads_choose (suc n) (λ w. may_end src E D how.Unnamed && not (begins (core_starts src E D how.Unnamed) w)) (Is (d.Unnamed, [])) (IsCore src SE SD how.Unnamed) (pure (d.Unnamed, [])) (core src E D how.Unnamed) (reads_is (suc n) (d.Unnamed, [])) (reads_core how.Unnamed) (heads_end how.Unnamed))
  reads_end how.Either p ps = reads_swap (reads_choose (suc n) (λ w. may_end src E D how.Either && not (begins (core_starts src E D how.Either) w)) (Is (d.Unnamed, [])) (IsCore src SE SD how.Either) (pure (d.Unnamed, [])) (core src E D how.Either) (reads_is (suc n) (d.Unnamed, [])) (reads_core how.Either) (heads_end how.Either))

  reads_behind : (naming : Naming) (ps : List Pointer) → Reads (suc n) (IsCore src SE SD naming or IsPointerAlone src SE SD naming ps) (core_behind src E D naming ps)
  unfolding core_behind
  reads_behind naming [] = reads_wider (suc n) (IsCore src SE SD naming) (IsCore src SE SD naming or IsPointerAlone src SE SD naming []) (core src E D naming) (λ x w h. inl h) (reads_core naming)
  reads_behind naming (p ∷ ps) = reads_end naming p ps

  pub reads_declarator_line : (naming : Naming) → Reads (suc n) (IsDeclaratorLine src SE SD naming) (declarator_line src E D naming)
  unfolding declarator_line
  reads_declarator_line naming = reads_located (suc n) (on_line src SE SD naming)
      (λ line w. and_then (pointers w) (λ ps v. and_then (core_behind src E D naming ps v) (λ found. pure (declarator_node line ps found.0 found.1))))
      (λ line. reads_seq (reads_pointers (suc n)) (λ ps. reads_seq (reads_behind naming ps) (λ found. reads_is (suc n) (declarator_node line ps found.0 found.1)))) (filled_line src SE SD naming) (moved src SE SD naming)

  pub reads_type_name : Reads n (IsTypeName src SE SD) (type_name src E D)
  unfolding type_name
  reads_type_name = reads_seq (reads_specifiers n) (λ ss.
      reads_seq (reads_if abstract_starts (reads_map Some (hd how.Unnamed)) (reads_is n None)) (λ declared. reads_is n (type_node ss declared)))

  -- ---- expressions

  pub reads_texts : Reads (suc n) (IsTexts src SE SD) (texts src E D)
  unfolding texts
  reads_texts = reads_seq (reads_one (suc n) text Text refl) (λ first.
      reads_seq (reads_repeat (text ∷ []) _ (reads_one (suc n) text Text refl) (starts_filled (text ∷ []) (One text) (starts_one text)) (text_of src first)) (λ bytes. reads_is (suc n) (text_node first bytes)))

  pub reads_parenthesized : Reads (suc n) (IsParenthesized src SE SD) (parenthesized src E D)
  unfolding parenthesized
  reads_parenthesized = reads_after (reads_one (suc n) open_paren (Punct 2) refl) (λ t. reads_seq (he at.Expression) (λ x. reads_seq (reads_one n close_paren (Punct 3) refl) (λ _. reads_is n (parenthesized_node t.line x))))

  pub reads_constant : Reads (suc n) (IsConstant src SE SD) (constant src E D)
  unfolding constant
  reads_constant = reads_token (suc n) _ _ (of (Character 0)) refl

  pub reads_primary : Reads (suc n) (IsPrimary src SE SD) (primary src E D)
  unfolding primary
  reads_primary = reads_if (name ∷ []) (reads_map (name_node src) (reads_one (suc n) name Name refl))
      (reads_if (text ∷ []) reads_texts (reads_if (open_paren ∷ []) reads_parenthesized reads_constant))

  pub reads_index : Reads (suc n) (IsIndex src SE SD) (index src E D)
  unfolding index
  reads_index = reads_after (reads_one (suc n) open_bracket (Punct 0) refl) (λ t. reads_seq (he at.Expression) (λ x. reads_seq (reads_one n close_bracket (Punct 1) refl) (λ _. reads_is n (index_node t.line x))))

  pub reads_arguments : Reads n (IsArguments src SE SD) (arguments src E D)
  unfolding arguments
  reads_arguments = reads_swap (reads_if (close_paren ∷ []) (reads_is n []) (reads_listed (he at.Assignment)))

  pub reads_call : Reads (suc n) (IsCall src SE SD) (call src E D)
  unfolding call
  reads_call = reads_after (reads_one (suc n) open_paren (Punct 2) refl) (λ t. reads_seq reads_arguments (λ xs. reads_seq (reads_one n close_paren (Punct 3) refl) (λ _. reads_is n (call_node t.line xs))))

  pub reads_part : Reads (suc n) (IsIndex src SE SD or IsCall src SE SD or IsStep src SE SD) (postfix_part src E D)
  unfolding postfix_part
  reads_part = reads_if (open_bracket ∷ []) reads_index
      (reads_if (open_paren ∷ []) reads_call (reads_map (λ p. postfix_node p.0 p.1) (reads_sign (suc n) postfix_operators (Punct 8) _ refl)))

  pub reads_postfix : Reads (suc n) (IsPostfix src SE SD) (postfix src E D)
  unfolding postfix
  reads_postfix = reads_seq reads_primary (λ x. reads_repeat postfix_starts (λ y part. part y) reads_part (starts_filled postfix_starts _ (starts_part src SE SD)) x)

  pub reads_prefix : (table : Table PrefixOp) (start : Start) → Reads (suc n) (Sign table) (sign table) → Reads (suc n) (IsPrefix src SE SD table start) (prefix src E D table start)
  unfolding prefix
  reads_prefix table start h = reads_after h (λ p. reads_seq (he start) (λ x. reads_is n (prefix_node p.0 p.1 x)))

  filled_expr : (start : Start) → Filled (SE start)
  filled_expr start = starts_filled expr_starts (SE start) (se start)

  in_parens_here : {A : Type 0} {S : Spelling A} {R : Reader A} → Reads n S R → Reads n (In_parens S) (in_parens R)
  in_parens_here h = reads_seq (reads_one n open_paren (Punct 2) refl) (λ _. reads_seq h (λ x. reads_seq (reads_one n close_paren (Punct 3) refl) (λ _. reads_is n x)))

  filled_parens : {A : Type 0} (S : Spelling A) → Filled (In_parens S)
  filled_parens S = starts_filled (open_paren ∷ []) (In_parens S) (starts_in_parens src SE SD S)

  past_sizeof_type : (t : Token) → Past n (begins (open_paren ∷ [])) (λ w. and_then (in_parens (type_name src E D) w) (λ ty. pure (sizeof_type_node t.line ty)))
  past_sizeof_type t = past_seq (past_first n n open_paren (omega arith) (λ _. reads_seq reads_type_name (λ x. reads_seq (reads_one n close_paren (Punct 3) refl) (λ _. reads_is n x))))
      (in_parens_here reads_type_name) (filled_parens (IsTypeName src SE SD)) (λ ty. reads_is n (sizeof_type_node t.line ty))

  filled_map : {A B : Type 0} (f : A → B) (S : Spelling A) → Filled S → Filled (Sequence S (λ x. Is (f x)))
  filled_map f S filled x w h =
      let full : 0 < length h.front = filled h.of h.front h.first in
      let sum : length w ≡ length h.front + length h.back = ap length h.parts ∙ length-append h.front h.back in omega arith

  pub reads_sizeof : Reads (suc n) (IsSizeof src SE SD) (sizeof src E D)
  unfolding sizeof
  reads_sizeof = reads_after (reads_one (suc n) sizeof_word (Keyword 24) refl) (λ t.
      reads_peek n begins_type (begins (open_paren ∷ [])) _ _ _ _ (reads_map (sizeof_type_node t.line) (in_parens_here reads_type_name)) (reads_map (sizeof_expr_node t.line) (he at.Unary))
      steady_type (heads_begins (open_paren ∷ [])) type_first
      (filled_map (sizeof_type_node t.line) (In_parens (IsTypeName src SE SD)) (filled_parens (IsTypeName src SE SD))) (filled_map (sizeof_expr_node t.line) (SE at.Unary) (filled_expr at.Unary))
      (past_sizeof_type t) (past_seq pe (he at.Unary) (filled_expr at.Unary) (λ x. reads_is n (sizeof_expr_node t.line x))))

  pub reads_unary : Reads (suc n) (IsUnary src SE SD) (unary src E D)
  unfolding unary
  reads_unary = reads_if (sizeof_word ∷ []) reads_sizeof
      (reads_if (kinds step_operators) (reads_prefix step_operators at.Unary (reads_sign (suc n) step_operators (Punct 8) _ refl))
      (reads_if (kinds unary_operators) (reads_prefix unary_operators at.Cast (reads_sign (suc n) unary_operators (Punct 10) _ refl)) reads_postfix))

  past_primary : Past (suc n) (begins (open_paren ∷ [])) (primary src E D)
  unfolding primary parenthesized
  past_primary = past_other (open_paren ∷ []) (name ∷ []) _ refl (past_other (open_paren ∷ []) (text ∷ []) _ refl (past_this (open_paren ∷ []) (open_paren ∷ []) _ refl
      (past_first (suc n) n open_paren (omega arith) (λ t. reads_seq (he at.Expression) (λ x. reads_seq (reads_one n close_paren (Punct 3) refl) (λ _. reads_is n (parenthesized_node t.line x)))))))

  past_postfix : Past (suc n) (begins (open_paren ∷ [])) (postfix src E D)
  unfolding postfix
  past_postfix = past_seq past_primary reads_primary (starts_filled primary_starts (IsPrimary src SE SD) (starts_primary src SE SD)) (λ x. reads_repeat postfix_starts (λ y part. part y) reads_part (starts_filled postfix_starts _ (starts_part src SE SD)) x)

  pub past_unary : Past (suc n) (begins (open_paren ∷ [])) (unary src E D)
  unfolding unary
  past_unary = past_other (open_paren ∷ []) (sizeof_word ∷ []) _ refl (past_other (open_paren ∷ []) (kinds step_operators) _ refl (past_other (open_paren ∷ []) (kinds unary_operators) _ refl past_postfix))

  pub reads_typed : Reads (suc n) (IsTyped src SE SD) (typed src E D)
  unfolding typed
  reads_typed = reads_after (reads_one (suc n) open_paren (Punct 2) refl) (λ t. reads_seq reads_type_name (λ ty. reads_seq (reads_one n close_paren (Punct 3) refl) (λ _. reads_seq (he at.Cast) (λ x. reads_is n (cast_node t.line ty x)))))

  past_typed : Past (suc n) (begins (open_paren ∷ [])) (typed src E D)
  unfolding typed
  past_typed = past_first (suc n) n open_paren (omega arith) (λ t. reads_seq reads_type_name (λ ty. reads_seq (reads_one n close_paren (Punct 3) refl) (λ _. reads_seq (he at.Cast) (λ x. reads_is n (cast_node t.line ty x)))))

  pub reads_cast : Reads (suc n) (IsCast src SE SD) (cast src E D)
  unfolding cast
  reads_cast = reads_peek (suc n) begins_type (begins (open_paren ∷ [])) (IsTyped src SE SD) (IsUnary src SE SD) (typed src E D) (unary src E D) reads_typed reads_unary
      steady_type (heads_begins (open_paren ∷ [])) type_first
      (starts_filled (open_paren ∷ []) (IsTyped src SE SD) (starts_typed src SE SD)) (starts_filled expr_starts (IsUnary src SE SD) (starts_unary src SE SD)) past_typed past_unary

  -- one level more, of which this is an operator
  reads_next : (l : ℕ) → Reads (suc n) (Sign (binary_operators l)) (sign (binary_operators l)) → Reads (suc n) (IsLevel src SE SD l) (level src E D l) → Reads (suc n) (IsLevel src SE SD (suc l)) (level src E D (suc l))
  unfolding level
  reads_next l h below = reads_seq below (λ x. reads_repeat (kinds (binary_operators l)) _ (reads_seq h (λ p. reads_seq below (λ y. reads_is (suc n) (p, y))))
      (starts_filled (kinds (binary_operators l)) (IsOperation src SE SD (binary_operators l) (IsLevel src SE SD l)) (starts_sequence (kinds (binary_operators l)) (Sign (binary_operators l)) (starts_sign (binary_operators l)) _)) x)

  reads_operator : (l : ℕ) (kind : TokenKind) (p : ℕ × BinaryOp) → of_table (binary_operators l) (of kind) ≡ Some p → Reads (suc n) (Sign (binary_operators l)) (sign (binary_operators l))
  reads_operator l kind p e = reads_sign (suc n) (binary_operators l) kind p e

  reads_level_zero : Reads (suc n) (IsLevel src SE SD 0) (level src E D 0)
  unfolding level
  reads_level_zero = reads_cast

  reads_level : Reads (suc n) (IsLevel src SE SD levels) (level src E D levels)
  unfolding binary_operators
  reads_level =
      reads_next 9 (reads_operator 9 (Punct 29) _ refl) (reads_next 8 (reads_operator 8 (Punct 28) _ refl) (reads_next 7 (reads_operator 7 (Punct 27) _ refl)
      (reads_next 6 (reads_operator 6 (Punct 26) _ refl) (reads_next 5 (reads_operator 5 (Punct 10) _ refl) (reads_next 4 (reads_operator 4 (Punct 24) _ refl)
      (reads_next 3 (reads_operator 3 (Punct 20) _ refl) (reads_next 2 (reads_operator 2 (Punct 18) _ refl) (reads_next 1 (reads_operator 1 (Punct 12) _ refl)
      (reads_next 0 (reads_operator 0 (Punct 11) _ refl) reads_level_zero)))))))))

  reads_branches : Reads (suc n) (IsBranches src SE SD) (branches src E D)
  unfolding branches
  reads_branches = reads_after (reads_one (suc n) question (Punct 30) refl) (λ t. reads_seq (he at.Expression) (λ first. reads_seq (reads_one n colon (Punct 31) refl) (λ _. reads_seq (he at.Conditional) (λ second. reads_is n _))))

  pub reads_conditional : Reads (suc n) (IsConditional src SE SD) (conditional src E D)
  unfolding conditional
  reads_conditional = reads_seq reads_level (λ x. reads_if (question ∷ []) (reads_map (λ f. f x) reads_branches) (reads_is (suc n) x))

  reads_assigned : (x : Expr) → Reads (suc n) (IsAssigned src SE SD x) (assigned src E D x)
  unfolding assigned
  reads_assigned x = reads_after (reads_sign (suc n) assignment_operators (Punct 34) _ refl) (λ p. reads_seq (he at.Assignment) (λ y. reads_is n (assign_node x p.0 p.1 y)))

  heads_left : (b : Bool) → Heads (λ w. b && begins (kinds assignment_operators) w)
  heads_left b r s alike = ap (λ v. b && v) (begins_alike (kinds assignment_operators) r s alike)

  reads_left : (b : Bool) (x : Expr) → Reads (suc n) (behind_left src SE SD b x) (choose (λ w. b && begins (kinds assignment_operators) w) (assigned src E D x) (pure x))
  reads_left true x = reads_choose (suc n) (λ w. true && begins (kinds assignment_operators) w) (IsAssigned src SE SD x) (Is x) (assigned src E D x) (pure x) (reads_assigned x) (reads_is (suc n) x) (heads_left true)
  reads_left false x = reads_is (suc n) x

  left_assignment : (b : Bool) (x y : Expr) (front back w : List Token) → is_unary x ≡ b → w ≡ front ++ back → IsConditional src SE SD x front → behind_left src SE SD b x y back → IsAssignment src SE SD y w
  left_assignment true x y front back w u e h (inl a) = inr (record { of = x; front = front; back = back; parts = e; first = unary_of_conditional src SE SD x front h u; second = a })
  left_assignment true x y front back w u e h (inr i) = inl (same_word (IsConditional src SE SD) y x w front back i.0 e i.1 h)
  left_assignment false x y front back w u e h i = inl (same_word (IsConditional src SE SD) y x w front back i.0 e i.1 h)

  pub reads_assignment : Reads (suc n) (IsAssignment src SE SD) (assignment src E D)
  unfolding assignment
  reads_assignment = reads_wider (suc n) (Sequence (IsConditional src SE SD) (λ x. behind_left src SE SD (is_unary x) x)) (IsAssignment src SE SD) (assignment src E D)
      (λ y w h. left_assignment (is_unary h.of) h.of y h.front h.back w refl h.parts h.first h.second)
      (reads_seq reads_conditional (λ x. reads_left (is_unary x) x))

  pub reads_expression : Reads (suc n) (IsExpression src SE SD) (expression src E D)
  unfolding expression
  reads_expression = reads_seq reads_assignment (λ x. reads_seq
      (reads_repeat (comma ∷ []) with_operand (reads_seq (reads_one (suc n) comma (Punct 45) refl) (λ _. reads_assignment))
      (starts_filled (comma ∷ []) (Sequence (One comma) (λ _. IsAssignment src SE SD)) (starts_comma (IsAssignment src SE SD))) ([], x))
      (λ p. reads_is (suc n) (comma_node p)))

  pub reads_expr_line : (start : Start) → Reads (suc n) (IsExprLine src SE SD start) (expr_line src E D start)
  reads_expr_line at.Expression = reads_expression
  reads_expr_line at.Assignment = reads_assignment
  reads_expr_line at.Conditional = reads_conditional
  reads_expr_line at.Cast = reads_cast
  reads_expr_line at.Unary = reads_unary
