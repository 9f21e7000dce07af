-- The readers of expressions and declarators read what is spelled.
use Rattle.std.proofs.Common.{◌≡◌, ℕ, zero, suc, not, ◌&&◌, subst, Bool, true, false, List, [], ◌∷◌, ◌++◌, refl, ap, sym, ◌∙◌, Option, Some, None, ◌⊎◌, inl, inr}
use Rattle.std.proofs.lemmas.List.{append-nil, append_assoc}
use Rattle.c_lexer.specs.declared.token.Token.{Token}
use Rattle.c_tree.specs.declared.expression.TypeName.{TypeName}
use Rattle.c_tree.specs.declared.operator.PrefixOp.{PrefixOp}
use Rattle.c_tree.specs.declared.expression.Expr.{Expr}
use Rattle.c_tree.specs.declared.expression.Declarator.{Declarator}
use Rattle.c_tree.specs.declared.expression.Direct.{Direct}
use Rattle.c_tree.specs.declared.expression.Direct.TheVariants as d
use Rattle.c_tree.specs.declared.expression.Suffix.{Suffix}
use Rattle.c_tree.specs.declared.specifier.Pointer.{Pointer}
use Rattle.c_expr.specs.declared.start.Start.{Start}
use Rattle.c_expr.specs.declared.start.Start.TheVariants as at
use Rattle.c_expr.specs.declared.start.Naming.{Naming}
use Rattle.c_expr.specs.declared.start.Naming.TheVariants as how
use Rattle.c_expr.specs.Codes.{Table, kinds, name, number, character, text, open_bracket, open_paren, star, sizeof_word, step_operators, unary_operators, postfix_operators, specifier_starts, postfix_starts, suffix_starts, declarator_starts, binary_operators, levels}
use Rattle.c_expr.specs.Spelling.{Spelling, One, Sign, Is, Sequence, Further, Listed, Maybe, In_parens, ◌or◌}
use Rattle.c_expr.specs.Nodes.{Bytes}
use Rattle.c_expr.specs.Grammar.{IsSpecifiers, IsPointer, IsPointers, IsArray, IsParameter, IsFunction, IsSuffix, IsNamed, IsNested, IsBare, IsCore, IsPointerAlone, IsDeclaratorLine, IsTypeName, IsName, IsConstant, IsTexts, IsParenthesized, IsPrimary, IsIndex, IsCall, IsStep, IsPostfix, IsSizeof, IsPrefix, IsUnary, IsTyped, IsCast, IsOperation, IsLevel, IsConditional, IsAssigned, IsAssignment, IsExpression, IsExprLine}
use Rattle.c_expr.specs.Codes.{close_bracket, close_paren, question, colon, comma, of_table, assignment_operators, abstract_starts, qualifiers}
use Rattle.c_expr.specs.Nodes.{name_node, text_node, text_of, parenthesized_node, index_node, call_node, postfix_node, prefix_node, sizeof_expr_node, sizeof_type_node, cast_node, assign_node, comma_node, with_operand, is_unary, type_node, parameter_node, direct_name, declarator_node}
use Rattle.c_expr.specs.Grammar.{IsBranches, operated}
use Rattle.c_expr.specs.Reading.{Reader, begins, and_then, pure, choose, listed, in_parens, specifiers, pointers, begins_type, encloses, array, parameter, parameters, function, suffix, suffixes, named, nested, bare, core, core_starts, may_end, core_behind, declarator_line, type_name, texts, parenthesized, constant, primary, index, arguments, call, postfix_part, postfix, sizeof, prefix, unary, typed, cast, level, branches, conditional, assigned, assignment, expression, expr_line}
use Rattle.c_expr.specs.Codes.{of_kind, specifier_words, parameter_starts}
use Rattle.c_expr.specs.Grammar.{IsSpecifier}
use Rattle.c_expr.specs.Nodes.{specifier_node, pointer_node, qualified}
use Rattle.c_expr.specs.Spelling.{push}
use Rattle.c_expr.specs.Reading.{specifier, pointer, then_begins, ◌<$>◌}
use Rattle.c_expr.proofs.Past.{begins_other}
use Rattle.c_expr.proofs.Alike.{false_is_not_true}
use Rattle.c_expr.proofs.Starts.{Starts, apart, within, starts_one, starts_sign, starts_sequence, starts_wider, starts_either, starts_empty, begins_with, begins_apart, within_left, within_right, within_self, Pair, pair_append, pair_one, pair_first, pair_second, pair_apart}
use Rattle.c_expr.proofs.Again.{Ahead, Off, On, Anything, Again, Clear, again_seq, again_is, again_token, again_after, again_behind, again_map, again_choose, again_if, again_maybe, again_swap, again_repeat, clear_starts, clear_is, clear_or, clear_grown, clear_sequence, again_located, again_narrower, again_ahead, off_within}
use Rattle.c_expr.proofs.Words.{starts_specifier, starts_pointer, starts_comma}
use Rattle.c_expr.proofs.Unary.{conditional_of_unary, unary_is_unary, behind_left}
use Rattle.c_expr.proofs.ExprStarts.{expr_starts, primary_starts, starts_array, starts_function, starts_suffix, starts_parameter, starts_bare, starts_named, starts_nested, filled_line, starts_name, starts_texts, starts_parenthesized, starts_constant, starts_index, starts_call, starts_step, starts_part, starts_postfix, starts_sizeof, starts_prefix, starts_type_name}

-- what a line may go on with
abbrev pub unary_on : List ℕ
unary_on = text ∷ postfix_starts

unfoldable pub level_on : ℕ → List ℕ
level_on zero = unary_on
level_on (suc l) = kinds (binary_operators l) ++ level_on l

unfoldable pub expr_on : Start → List ℕ
expr_on at.Unary = unary_on
expr_on at.Cast = unary_on
expr_on at.Conditional = question ∷ level_on levels
expr_on at.Assignment = kinds assignment_operators ++ question ∷ level_on levels
expr_on at.Expression = comma ∷ kinds assignment_operators ++ question ∷ level_on levels

abbrev pub declarator_on : List ℕ
declarator_on = star ∷ name ∷ open_bracket ∷ open_paren ∷ kinds qualifiers

-- ---- short forms

pub off_of : (ks ls : List ℕ) → apart ks ls ≡ true → (rest : List Token) → On ks rest → Off ls rest
off_of ks ls e rest b = begins_other ks ls e rest b

pub clear_any : {A : Type 0} {T : Spelling A} {Q : Ahead} → Clear Anything T Q
clear_any = record { clear = λ x f rest h q. tt }

-- a token that does not go on with what is before
pub clear_one : {B : Type 0} {Q : Ahead} (k : ℕ) (ls : List ℕ) (T : Token → Spelling B) → apart (k ∷ []) ls ≡ true → Clear (Off ls) (Sequence (One k) T) Q
clear_one k ls T e = clear_starts (k ∷ []) ls (starts_sequence (k ∷ []) (One k) (starts_one k) T) e

pub clear_on : {B : Type 0} {Q : Ahead} (k : ℕ) (T : Token → Spelling B) → Clear (On (k ∷ [])) (Sequence (One k) T) Q
clear_on k T = record { clear = λ x f rest h q. begins_with (k ∷ []) (Sequence (One k) T) (starts_sequence (k ∷ []) (One k) (starts_one k) T) (k ∷ []) (within_self (k ∷ [])) x f rest h }

-- a line or nothing, up to a token of a kind
pub again_empty : {A : Type 0} {n : ℕ} {T : Spelling A} {Q : Reader A} (ks : List ℕ) (k : ℕ) (a : A) → Starts ks T → apart ks (k ∷ []) ≡ true → Again n T Q (On (k ∷ [])) → Again n (T or Is a) (choose (begins (k ∷ [])) (pure a) Q) (On (k ∷ []))
again_empty {n = n} {T = T} ks k a s e h = again_swap (again_choose (begins (k ∷ [])) (again_is n a) h
    (λ x f rest i p. ap (λ v. begins (k ∷ []) (v ++ rest)) i.1 ∙ p) (λ x f rest t p. begins_apart ks T s (k ∷ []) e x f rest t))

pub again_listed : {A : Type 0} {n : ℕ} {S : Spelling A} {R : Reader A} (on ms : List ℕ) → Again n S R (Off on) → apart (comma ∷ []) on ≡ true → within (comma ∷ []) ms ≡ true → within on ms ≡ true → Again n (Listed S) (listed R) (Off ms)
again_listed {S = S} on ms h e c w = again_seq h
    (λ x. clear_grown push (x ∷ []) (clear_starts (comma ∷ []) on (starts_comma S) e) (off_within on ms w))
    (λ x. again_repeat (comma ∷ []) on ms push (again_behind (λ _. h)) (starts_comma S) e refl c w (x ∷ []))

pub again_in_parens : {A : Type 0} {n : ℕ} {S : Spelling A} {R : Reader A} {P : Ahead} (on : List ℕ) → Again n S R (Off on) → apart (close_paren ∷ []) on ≡ true → Again (suc n) (In_parens S) (in_parens R) P
again_in_parens {n = n} on h e = again_after (λ _. again_seq h (λ x. clear_one close_paren on _ e) (λ x. again_behind (λ _. again_is n x)))

-- in parentheses that lie within what is as long
pub again_parens_here : {A : Type 0} {n : ℕ} {S : Spelling A} {R : Reader A} {P : Ahead} (on : List ℕ) → Again n S R (Off on) → apart (close_paren ∷ []) on ≡ true → Again n (In_parens S) (in_parens R) P
again_parens_here {n = n} on h e = again_behind (λ _. again_seq h (λ x. clear_one close_paren on _ e) (λ x. again_behind (λ _. again_is n x)))

-- ---- specifiers and pointers

again_specifier : {P : Ahead} (n : ℕ) → Again n IsSpecifier specifier P
unfolding specifier
again_specifier n = again_map (λ p. specifier_node p.0 p.1) (again_token n (of_table specifier_words))

pub again_specifiers : (n : ℕ) → Again n IsSpecifiers specifiers (Off specifier_starts)
unfolding specifiers
again_specifiers n = again_seq {P = Anything} (again_specifier n) (λ x. clear_any)
    (λ x. again_repeat specifier_starts [] specifier_starts push (again_specifier n) starts_specifier refl refl refl refl (x ∷ []))

abbrev pub pointer_on : List ℕ
pointer_on = star ∷ kinds qualifiers

again_pointer : (n : ℕ) → Again n IsPointer pointer (Off (kinds qualifiers))
unfolding pointer
again_pointer n = again_behind (λ t. again_repeat (kinds qualifiers) [] (kinds qualifiers) (λ p q. qualified p q.1) (again_token n (of_table qualifiers)) (starts_sign qualifiers) refl refl refl refl (pointer_node t.line))

pub again_pointers : (n : ℕ) → Again n IsPointers pointers (Off pointer_on)
unfolding pointers
again_pointers n = again_repeat (star ∷ []) (kinds qualifiers) pointer_on push (again_pointer n) starts_pointer refl refl refl refl []

and_false : (b : Bool) → (b && false) ≡ false
and_false true = refl
and_false false = refl

or_none : (P : Type 0) → P ⊎ ⊥ → P
or_none P (inl h) = h
or_none P (inr h) = absurd h

-- operators of a level do not go on with operands of it
level_apart : (l : ℕ) → apart (kinds (binary_operators l)) (level_on l) ≡ true
unfolding level_on binary_operators
level_apart zero = refl
level_apart (suc zero) = refl
level_apart (suc (suc zero)) = refl
level_apart (suc (suc (suc zero))) = refl
level_apart (suc (suc (suc (suc zero)))) = refl
level_apart (suc (suc (suc (suc (suc zero))))) = refl
level_apart (suc (suc (suc (suc (suc (suc zero)))))) = refl
level_apart (suc (suc (suc (suc (suc (suc (suc zero))))))) = refl
level_apart (suc (suc (suc (suc (suc (suc (suc (suc zero)))))))) = refl
level_apart (suc (suc (suc (suc (suc (suc (suc (suc (suc zero))))))))) = refl
level_apart (suc (suc (suc (suc (suc (suc (suc (suc (suc (suc l)))))))))) = refl

module _ (src : Bytes) (SE : Start → Spelling Expr) (SD : Naming → Spelling Declarator) (se : (start : Start) → Starts expr_starts (SE start)) where
  -- a `(` in front of a type's name begins no unary expression
  not_open : {A : Type 0} (ks : List ℕ) (S : Spelling A) → Starts ks S → apart ks (open_paren ∷ []) ≡ true → (x : A) (f rest : List Token) → S x f → begins_type (f ++ rest) ≡ false
  unfolding begins_type
  not_open ks S s e x f rest h = ap (λ b. b && then_begins specifier_starts (f ++ rest)) (begins_apart ks S s (open_paren ∷ []) e x f rest h)

  pair_not : (f rest : List Token) → Pair (open_paren ∷ []) expr_starts f → begins_type (f ++ rest) ≡ false
  unfolding begins_type
  pair_not f rest p = ap (λ b. begins (open_paren ∷ []) (f ++ rest) && b) (pair_apart (open_paren ∷ []) expr_starts specifier_starts f rest p refl) ∙ and_false (begins (open_paren ∷ []) (f ++ rest))

  primary_not : (x : Expr) (f rest : List Token) → IsPrimary src SE SD x f → begins_type (f ++ rest) ≡ false
  primary_not x f rest (inl h) = not_open (name ∷ []) (IsName src SE SD) (starts_name src SE SD) refl x f rest h
  primary_not x f rest (inr (inl h)) = not_open (text ∷ []) (IsTexts src SE SD) (starts_texts src SE SD) refl x f rest h
  primary_not x f rest (inr (inr (inl h))) = pair_not f rest (pair_one open_paren expr_starts _ (λ t. starts_sequence expr_starts (SE at.Expression) (se at.Expression) _) x f h)
  primary_not x f rest (inr (inr (inr h))) = not_open (number ∷ character ∷ []) (IsConstant src SE SD) starts_constant refl x f rest h

  pub unary_not : (x : Expr) (f rest : List Token) → IsUnary src SE SD x f → begins_type (f ++ rest) ≡ false
  unary_not x f rest (inl h) = not_open (sizeof_word ∷ []) (IsSizeof src SE SD) (starts_sizeof src SE SD) refl x f rest h
  unary_not x f rest (inr (inl h)) = not_open (kinds step_operators) (IsPrefix src SE SD step_operators at.Unary) (starts_prefix src SE SD step_operators at.Unary) refl x f rest h
  unary_not x f rest (inr (inr (inl h))) = not_open (kinds unary_operators) (IsPrefix src SE SD unary_operators at.Cast) (starts_prefix src SE SD unary_operators at.Cast) refl x f rest h
  unary_not x f rest (inr (inr (inr h))) =
      ap begins_type (ap (λ v. v ++ rest) h.parts ∙ append_assoc h.front h.back rest) ∙ primary_not h.of h.front (h.back ++ rest) h.first

module _ (src : Bytes) (n : ℕ) (SE : Start → Spelling Expr) (SD : Naming → Spelling Declarator) (E : Start → Reader Expr) (D : Naming → Reader Declarator)
    (he : (start : Start) → Again n (SE start) (E start) (Off (expr_on start))) (hd : (naming : Naming) → Again n (SD naming) (D naming) (Off declarator_on))
    (se : (start : Start) → Starts expr_starts (SE start)) (sd : (naming : Naming) → Starts declarator_starts (SD naming)) (su : Starts abstract_starts (SD how.Unnamed))
    (st : (x : Expr) (w rest : List Token) → SE at.Unary x w → begins_type (w ++ rest) ≡ false) where
  -- ---- declarators

  again_array : {P : Ahead} → Again (suc n) (IsArray src SE SD) (array src E D) P
  unfolding array expr_on level_on binary_operators
  again_array = again_after (λ t. again_seq (again_empty expr_starts close_bracket None (starts_sequence expr_starts (SE at.Conditional) (se at.Conditional) _) refl
      (again_map Some (again_ahead (off_of (close_bracket ∷ []) (expr_on at.Conditional) refl) (he at.Conditional))))
      (λ size. clear_on close_bracket _) (λ size. again_behind (λ _. again_is n _)))

  abbrev parameter_on : List ℕ
  parameter_on = declarator_on ++ specifier_starts

  clear_declared : {A B : Type 0} (ks on ms : List ℕ) (S : Spelling A) (g : Option A → B) → Starts ks S → apart ks on ≡ true → within on ms ≡ true → Clear (Off on) (Sequence (Maybe S) (λ o. Is (g o))) (Off ms)
  clear_declared ks on ms S g s e w = clear_sequence (clear_or (clear_starts ks on (starts_sequence ks S s _) e) (clear_is None (Off on) (Off on) (λ rest q. q))) (λ o. clear_is (g o) (Off on) (Off ms) (off_within on ms w))

  again_declared : {A : Type 0} (ks on ms : List ℕ) (S : Spelling A) (R : Reader A) → Starts ks S → Again n S R (Off on) → within on ms ≡ true → within ks ms ≡ true → Again n (Maybe S) (choose (begins ks) (Some <$> R) (pure None)) (Off ms)
  again_declared ks on ms S R s h w k = again_maybe ks ks (starts_sequence ks S s _) (within_self ks) (clear_is None (Off ks) (Off ms) (off_within ks ms k))
      (again_map Some (again_ahead (off_within on ms w) h)) (again_is n None)

  again_parameter : Again n (IsParameter src SE SD) (parameter src E D) (Off parameter_on)
  unfolding parameter
  again_parameter = again_seq (again_specifiers n) (λ ss. clear_declared declarator_starts specifier_starts parameter_on (SD how.Either) (parameter_node ss) (sd how.Either) refl refl)
      (λ ss. again_seq (again_declared declarator_starts declarator_on parameter_on (SD how.Either) (D how.Either) (sd how.Either) (hd how.Either) refl refl)
      (λ declared. clear_is (parameter_node ss declared) (Off parameter_on) (Off parameter_on) (λ rest q. q)) (λ declared. again_is n (parameter_node ss declared)))

  again_function : {P : Ahead} → Again (suc n) (IsFunction src SE SD) (function src E D) P
  unfolding function parameters
  again_function = again_after (λ t. again_seq
      (again_empty specifier_starts close_paren [] (starts_sequence specifier_starts (IsParameter src SE SD) (starts_parameter src SE SD) _) refl
      (again_ahead (off_of (close_paren ∷ []) (comma ∷ parameter_on) refl) (again_listed parameter_on (comma ∷ parameter_on) again_parameter refl refl refl)))
      (λ ps. clear_on close_paren _) (λ ps. again_behind (λ _. again_is n _)))

  again_suffix : {P : Ahead} → Again (suc n) (IsSuffix src SE SD) (suffix src E D) P
  unfolding suffix
  again_suffix = again_if (open_bracket ∷ []) (open_paren ∷ []) (open_bracket ∷ []) (starts_array src SE SD) refl (starts_function src SE SD) refl again_array again_function

  again_suffixes : (found : List Suffix) → Again (suc n) (Further (IsSuffix src SE SD) found) (suffixes src E D found) (Off declarator_on)
  unfolding suffixes
  again_suffixes found = again_repeat suffix_starts [] declarator_on push again_suffix (starts_suffix src SE SD) refl refl refl refl found

  again_behind_suffixes : {B : Type 0} (found : List Suffix) (g : List Suffix → B) → Again (suc n) (Sequence (Further (IsSuffix src SE SD) found) (λ xs. Is (g xs))) (λ w. and_then (suffixes src E D found w) (λ xs. pure (g xs))) (Off declarator_on)
  again_behind_suffixes found g = again_seq (again_suffixes found) (λ xs. clear_is (g xs) (Off declarator_on) (Off declarator_on) (λ rest q. q)) (λ xs. again_is (suc n) (g xs))

  again_named : Again (suc n) (IsNamed src SE SD) (named src E D) (Off declarator_on)
  unfolding named
  again_named = again_behind (λ t. again_behind_suffixes [] (λ found. (direct_name src t, found)))

  again_nested : (naming : Naming) → Again (suc n) (IsNested src SE SD naming) (nested src E D naming) (Off declarator_on)
  unfolding nested
  again_nested naming = again_seq {P = Anything} (again_in_parens declarator_on (hd naming) refl) (λ inner. clear_any) (λ inner. again_behind_suffixes [] (λ found. (d.Nested inner, found)))

  again_bare : Again (suc n) (IsBare src SE SD) (bare src E D) (Off declarator_on)
  unfolding bare
  again_bare = again_narrower (λ x w h. record {
    of = h.first.of;
    front = h.first.front;
    back = h.first.back ++ h.back;
    parts = h.parts ∙ (ap (λ v. v ++ h.back) h.first.parts ∙ append_assoc h.first.front h.first.back h.back);
    first = h.first.first;
    second = record { of = h.of; front = h.first.back; back = h.back; parts = refl; first = h.first.second; second = h.second };
  })
      (again_seq {P = Anything} again_suffix (λ first. clear_any) (λ first. again_behind_suffixes (first ∷ []) (λ found. (d.Unnamed, found))))

  -- a `(` in front of a declarator encloses it, and one in front of parameters does not
  encloses_nested : (naming : Naming) (x : Direct × List Suffix) (f rest : List Token) → IsNested src SE SD naming x f → encloses (f ++ rest) ≡ true
  unfolding encloses
  encloses_nested naming x f rest h =
      let p : Pair (open_paren ∷ []) declarator_starts f = pair_append (open_paren ∷ []) declarator_starts f h.front h.back h.parts
      (pair_one open_paren declarator_starts _ (λ t. starts_sequence declarator_starts (SD naming) (sd naming) _) h.of h.front h.first) in
      ap (λ b. b && not (then_begins parameter_starts (f ++ rest))) (pair_first (open_paren ∷ []) declarator_starts (open_paren ∷ []) f rest p refl)
      ∙ ap (λ b. true && not b) (pair_apart (open_paren ∷ []) declarator_starts parameter_starts f rest p refl)

  encloses_not : (f rest : List Token) (b : Bool) → begins (open_paren ∷ []) (f ++ rest) ≡ false → (begins (open_paren ∷ []) (f ++ rest) && b) ≡ false
  encloses_not f rest b e = ap (λ v. v && b) e

  encloses_suffix : (x : Suffix) (f rest : List Token) → IsSuffix src SE SD x f → encloses (f ++ rest) ≡ false
  unfolding encloses
  encloses_suffix x f rest (inl h) = ap (λ v. v && not (then_begins parameter_starts (f ++ rest))) (begins_apart (open_bracket ∷ []) (IsArray src SE SD) (starts_array src SE SD) (open_paren ∷ []) refl x f rest h)
  encloses_suffix x f rest (inr h) =
      let p : Pair (open_paren ∷ []) parameter_starts f =
      pair_one open_paren parameter_starts _ (λ t. starts_empty parameter_starts (Listed (IsParameter src SE SD)) [] _
      (starts_wider specifier_starts _ (starts_sequence specifier_starts (IsParameter src SE SD) (starts_parameter src SE SD) _) parameter_starts refl)
      (λ ps. starts_wider (close_paren ∷ []) _ (starts_sequence (close_paren ∷ []) (One close_paren) (starts_one close_paren) _) parameter_starts refl)) x f h in
      ap (λ b. begins (open_paren ∷ []) (f ++ rest) && not b) (pair_second (open_paren ∷ []) parameter_starts parameter_starts f rest p refl) ∙ and_false (begins (open_paren ∷ []) (f ++ rest))

  encloses_bare : (x : Direct × List Suffix) (f rest : List Token) → IsBare src SE SD x f → encloses (f ++ rest) ≡ false
  encloses_bare x f rest h =
      let joined : f ++ rest ≡ h.first.front ++ (h.first.back ++ (h.back ++ rest)) = ap (λ v. v ++ rest) (h.parts ∙ ap (λ v. v ++ h.back) h.first.parts) ∙ (append_assoc (h.first.front ++ h.first.back) h.back rest ∙ append_assoc h.first.front h.first.back (h.back ++ rest)) in
      ap encloses joined ∙ encloses_suffix h.first.of h.first.front (h.first.back ++ (h.back ++ rest)) h.first.first

  again_unnamed : (naming : Naming) → Again (suc n) (IsNested src SE SD naming or IsBare src SE SD) (choose encloses (nested src E D naming) (bare src E D)) (Off declarator_on)
  again_unnamed naming = again_choose encloses (again_nested naming) again_bare (λ x f rest h p. encloses_nested naming x f rest h) (λ x f rest h p. encloses_bare x f rest h)

  starts_unnamed : (naming : Naming) → Starts suffix_starts (IsNested src SE SD naming or IsBare src SE SD)
  starts_unnamed naming = starts_either suffix_starts (IsNested src SE SD naming) (IsBare src SE SD) (starts_wider (open_paren ∷ []) (IsNested src SE SD naming) (starts_nested src SE SD naming) suffix_starts refl) (starts_bare src SE SD)

  again_core : (naming : Naming) → Again (suc n) (IsCore src SE SD naming) (core src E D naming) (Off declarator_on)
  again_core how.Named = again_if (name ∷ []) (open_paren ∷ []) (name ∷ []) (starts_named src SE SD) refl (starts_nested src SE SD how.Named) refl again_named (again_nested how.Named)
  again_core how.Unnamed = again_unnamed how.Unnamed
  again_core how.Either = again_if (name ∷ []) suffix_starts (name ∷ []) (starts_named src SE SD) refl (starts_unnamed how.Either) refl again_named (again_unnamed how.Either)

  core_begins : (naming : Naming) → Starts (core_starts src E D naming) (IsCore src SE SD naming)
  core_begins how.Named = starts_either (name ∷ open_paren ∷ []) (IsNamed src SE SD) (IsNested src SE SD how.Named) (starts_wider (name ∷ []) (IsNamed src SE SD) (starts_named src SE SD) (name ∷ open_paren ∷ []) refl)
      (starts_wider (open_paren ∷ []) (IsNested src SE SD how.Named) (starts_nested src SE SD how.Named) (name ∷ open_paren ∷ []) refl)
  core_begins how.Unnamed = starts_unnamed how.Unnamed
  core_begins how.Either = starts_either (name ∷ suffix_starts) (IsNamed src SE SD) (IsNested src SE SD how.Either or IsBare src SE SD) (starts_wider (name ∷ []) (IsNamed src SE SD) (starts_named src SE SD) (name ∷ suffix_starts) refl)
      (starts_wider suffix_starts (IsNested src SE SD how.Either or IsBare src SE SD) (starts_unnamed how.Either) (name ∷ suffix_starts) refl)

  again_end : (naming : Naming) (p : Pointer) (ps : List Pointer) → may_end src E D naming ≡ true → within (core_starts src E D naming) declarator_on ≡ true
      → Again (suc n) (Is (d.Unnamed, []) or IsCore src SE SD naming) (choose (λ w. may_end src E D naming && not (begins (core_starts src E D naming) w)) (pure (d.Unnamed, [])) (core src E D naming)) (Off declarator_on)
  again_end naming p ps e w = again_choose (λ v. may_end src E D naming && not (begins (core_starts src E D naming) v)) (again_is (suc n) (d.Unnamed, [])) (again_core naming)
      (λ x f rest h q. ap (λ b. b && not (begins (core_starts src E D naming) (f ++ rest))) e ∙ (ap (λ v. true && not (begins (core_starts src E D naming) (v ++ rest))) h.1 ∙ ap (λ b. true && not b) (off_within (core_starts src E D naming) declarator_on w rest q)))
      (λ x f rest h q. ap (λ b. may_end src E D naming && not b) (begins_with (core_starts src E D naming) (IsCore src SE SD naming) (core_begins naming) (core_starts src E D naming) (within_self (core_starts src E D naming)) x f rest h) ∙ and_false (may_end src E D naming))

  again_behind_pointers : (naming : Naming) (ps : List Pointer) → Again (suc n) (IsCore src SE SD naming or IsPointerAlone src SE SD naming ps) (core_behind src E D naming ps) (Off declarator_on)
  unfolding core_behind
  again_behind_pointers how.Named [] = again_narrower (λ x w h. or_none (IsCore src SE SD how.Named x w) h) (again_core how.Named)
  again_behind_pointers how.Unnamed [] = again_narrower (λ x w h. or_none (IsCore src SE SD how.Unnamed x w) h) (again_core how.Unnamed)
  again_behind_pointers how.Either [] = again_narrower (λ x w h. or_none (IsCore src SE SD how.Either x w) h) (again_core how.Either)
  again_behind_pointers how.Named (p ∷ ps) = again_narrower (λ x w h. or_none (IsCore src SE SD how.Named x w) h) (again_core how.Named)
  again_behind_pointers how.Unnamed (p ∷ ps) = again_swap (again_end how.Unnamed p ps refl refl)
  again_behind_pointers how.Either (p ∷ ps) = again_swap (again_end how.Either p ps refl refl)

  clear_alone : (naming : Naming) (ps : List Pointer) → Clear (Off pointer_on) (IsPointerAlone src SE SD naming ps) (Off declarator_on)
  clear_alone how.Named ps = record { clear = λ x f rest h q. absurd h }
  clear_alone how.Unnamed [] = record { clear = λ x f rest h q. absurd h }
  clear_alone how.Either [] = record { clear = λ x f rest h q. absurd h }
  clear_alone how.Unnamed (p ∷ ps) = clear_is (d.Unnamed, []) (Off pointer_on) (Off declarator_on) (off_within pointer_on declarator_on refl)
  clear_alone how.Either (p ∷ ps) = clear_is (d.Unnamed, []) (Off pointer_on) (Off declarator_on) (off_within pointer_on declarator_on refl)

  clear_core : (naming : Naming) → Clear (Off pointer_on) (IsCore src SE SD naming) (Off declarator_on)
  clear_core how.Named = clear_starts (core_starts src E D how.Named) pointer_on (core_begins how.Named) refl
  clear_core how.Unnamed = clear_starts (core_starts src E D how.Unnamed) pointer_on (core_begins how.Unnamed) refl
  clear_core how.Either = clear_starts (core_starts src E D how.Either) pointer_on (core_begins how.Either) refl

  again_on_line : (naming : Naming) (line : ℕ) → Again (suc n) (Sequence IsPointers (λ ps. Sequence (IsCore src SE SD naming or IsPointerAlone src SE SD naming ps) (λ found. Is (declarator_node line ps found.0 found.1))))
      (λ w. and_then (pointers w) (λ ps v. and_then (core_behind src E D naming ps v) (λ found. pure (declarator_node line ps found.0 found.1)))) (Off declarator_on)
  again_on_line naming line = again_seq (again_pointers (suc n))
      (λ ps. clear_sequence {O = Off declarator_on} (clear_or (clear_core naming) (clear_alone naming ps)) (λ found. clear_is _ (Off declarator_on) (Off declarator_on) (λ rest q. q)))
      (λ ps. again_seq (again_behind_pointers naming ps) (λ found. clear_is _ (Off declarator_on) (Off declarator_on) (λ rest q. q)) (λ found. again_is (suc n) (declarator_node line ps found.0 found.1)))

  pub again_declarator_line : (naming : Naming) → Again (suc n) (IsDeclaratorLine src SE SD naming) (declarator_line src E D naming) (Off declarator_on)
  unfolding declarator_line
  again_declarator_line naming = again_located (suc n) _ _ (again_on_line naming) (filled_line src SE SD naming)

  again_type_name : Again n (IsTypeName src SE SD) (type_name src E D) (Off parameter_on)
  unfolding type_name
  again_type_name = again_seq (again_specifiers n) (λ ss. clear_declared abstract_starts specifier_starts parameter_on (SD how.Unnamed) (type_node ss) su refl refl)
      (λ ss. again_seq (again_declared abstract_starts declarator_on parameter_on (SD how.Unnamed) (D how.Unnamed) su (hd how.Unnamed) refl refl)
      (λ declared. clear_is (type_node ss declared) (Off parameter_on) (Off parameter_on) (λ rest q. q)) (λ declared. again_is n (type_node ss declared)))

  -- ---- expressions

  again_texts : Again (suc n) (IsTexts src SE SD) (texts src E D) (Off (text ∷ []))
  unfolding texts
  again_texts = again_behind (λ first. again_seq (again_repeat (text ∷ []) [] (text ∷ []) _ (again_token (suc n) (of_kind text)) (starts_one text) refl refl refl refl (text_of src first))
      (λ bytes. clear_is (text_node first bytes) (Off (text ∷ [])) (Off (text ∷ [])) (λ rest q. q)) (λ bytes. again_is (suc n) (text_node first bytes)))

  again_parenthesized : {P : Ahead} → Again (suc n) (IsParenthesized src SE SD) (parenthesized src E D) P
  unfolding parenthesized expr_on level_on binary_operators
  again_parenthesized = again_after (λ t. again_seq (he at.Expression) (λ x. clear_one close_paren (expr_on at.Expression) _ refl) (λ x. again_behind (λ _. again_is n (parenthesized_node t.line x))))

  abbrev late_starts : List ℕ
  late_starts = open_paren ∷ number ∷ character ∷ []

  starts_late : Starts late_starts (IsParenthesized src SE SD or IsConstant src SE SD)
  starts_late = starts_either late_starts (IsParenthesized src SE SD) (IsConstant src SE SD) (starts_wider (open_paren ∷ []) (IsParenthesized src SE SD) (starts_parenthesized src SE SD) late_starts refl)
      (starts_wider (number ∷ character ∷ []) (IsConstant src SE SD) starts_constant late_starts refl)

  again_primary : Again (suc n) (IsPrimary src SE SD) (primary src E D) (Off (text ∷ []))
  unfolding primary constant
  again_primary = again_if (name ∷ []) (text ∷ late_starts) (name ∷ []) (starts_name src SE SD) refl
      (starts_either (text ∷ late_starts) (IsTexts src SE SD) (IsParenthesized src SE SD or IsConstant src SE SD) (starts_wider (text ∷ []) (IsTexts src SE SD) (starts_texts src SE SD) (text ∷ late_starts) refl)
      (starts_wider late_starts (IsParenthesized src SE SD or IsConstant src SE SD) starts_late (text ∷ late_starts) refl)) refl
      (again_map (name_node src) (again_token (suc n) (of_kind name)))
      (again_if (text ∷ []) late_starts (text ∷ []) (starts_texts src SE SD) refl starts_late refl again_texts
      (again_if (open_paren ∷ []) (number ∷ character ∷ []) (open_paren ∷ []) (starts_parenthesized src SE SD) refl starts_constant refl again_parenthesized (again_token (suc n) _)))

  again_index : {P : Ahead} → Again (suc n) (IsIndex src SE SD) (index src E D) P
  unfolding index expr_on level_on binary_operators
  again_index = again_after (λ t. again_seq (he at.Expression) (λ x. clear_one close_bracket (expr_on at.Expression) _ refl) (λ x. again_behind (λ _. again_is n (index_node t.line x))))

  again_call : {P : Ahead} → Again (suc n) (IsCall src SE SD) (call src E D) P
  unfolding call arguments expr_on level_on binary_operators
  again_call = again_after (λ t. again_seq
      (again_empty expr_starts close_paren [] (starts_sequence expr_starts (SE at.Assignment) (se at.Assignment) _) refl
      (again_ahead (off_of (close_paren ∷ []) (comma ∷ expr_on at.Assignment) refl) (again_listed (expr_on at.Assignment) (comma ∷ expr_on at.Assignment) (he at.Assignment) refl refl refl)))
      (λ xs. clear_on close_paren _) (λ xs. again_behind (λ _. again_is n (call_node t.line xs))))

  again_part : {P : Ahead} → Again (suc n) (IsIndex src SE SD or IsCall src SE SD or IsStep src SE SD) (postfix_part src E D) P
  unfolding postfix_part
  again_part = again_if (open_bracket ∷ []) (open_paren ∷ kinds postfix_operators) (open_bracket ∷ []) (starts_index src SE SD) refl
      (starts_either (open_paren ∷ kinds postfix_operators) (IsCall src SE SD) (IsStep src SE SD) (starts_wider (open_paren ∷ []) (IsCall src SE SD) (starts_call src SE SD) (open_paren ∷ kinds postfix_operators) refl)
      (starts_wider (kinds postfix_operators) (IsStep src SE SD) (starts_step src SE SD) (open_paren ∷ kinds postfix_operators) refl)) refl
      again_index
      (again_if (open_paren ∷ []) (kinds postfix_operators) (open_paren ∷ []) (starts_call src SE SD) refl (starts_step src SE SD) refl again_call (again_map (λ p. postfix_node p.0 p.1) (again_token (suc n) (of_table postfix_operators))))

  again_postfix : Again (suc n) (IsPostfix src SE SD) (postfix src E D) (Off unary_on)
  unfolding postfix
  again_postfix = again_seq again_primary
      (λ x. clear_grown (λ y part. part y) x (clear_starts postfix_starts (text ∷ []) (starts_part src SE SD) refl) (off_within (text ∷ []) unary_on refl))
      (λ x. again_repeat postfix_starts [] unary_on (λ y part. part y) again_part (starts_part src SE SD) refl refl refl refl x)

  pair_type : (f rest : List Token) → Pair (open_paren ∷ []) specifier_starts f → begins_type (f ++ rest) ≡ true
  unfolding begins_type
  pair_type f rest p = ap (λ b. b && then_begins specifier_starts (f ++ rest)) (pair_first (open_paren ∷ []) specifier_starts (open_paren ∷ []) f rest p refl) ∙ pair_second (open_paren ∷ []) specifier_starts specifier_starts f rest p refl

  type_parens : (x : TypeName) (f rest : List Token) → In_parens (IsTypeName src SE SD) x f → begins_type (f ++ rest) ≡ true
  type_parens x f rest h = pair_type f rest (pair_one open_paren specifier_starts _ (λ t. starts_sequence specifier_starts (IsTypeName src SE SD) (starts_type_name src SE SD) _) x f h)

  in_front : {A B : Type 0} (S : Spelling A) (T : A → Spelling B) (test : List Token → Bool) (b : Bool) → ((x : A) (f rest : List Token) → S x f → test (f ++ rest) ≡ b) → (y : B) (f rest : List Token) → Sequence S T y f → test (f ++ rest) ≡ b
  in_front S T test b all y f rest h = ap test (ap (λ v. v ++ rest) h.parts ∙ append_assoc h.front h.back rest) ∙ all h.of h.front (h.back ++ rest) h.first

  again_sizeof : Again (suc n) (IsSizeof src SE SD) (sizeof src E D) (Off unary_on)
  unfolding sizeof expr_on
  again_sizeof = again_after (λ t. again_choose begins_type
      (again_map (sizeof_type_node t.line) (again_parens_here parameter_on again_type_name refl)) (again_map (sizeof_expr_node t.line) (he at.Unary))
      (λ x f rest h p. in_front (In_parens (IsTypeName src SE SD)) _ begins_type true type_parens x f rest h) (λ x f rest h p. in_front (SE at.Unary) _ begins_type false st x f rest h))

  again_prefix : (table : Table PrefixOp) (start : Start) → (expr_on start ≡ unary_on) → Again (suc n) (IsPrefix src SE SD table start) (prefix src E D table start) (Off unary_on)
  unfolding prefix
  again_prefix table start e = again_after (λ p. again_seq (again_ahead (λ rest q. (let P : List ℕ → Type 0 = λ ks. Off ks rest in subst P (sym e) q)) (he start)) (λ x. clear_is _ (Off unary_on) (Off unary_on) (λ rest q. q)) (λ x. again_is n (prefix_node p.0 p.1 x)))

  on_unary : expr_on at.Unary ≡ unary_on
  unfolding expr_on
  on_unary = refl

  on_cast : expr_on at.Cast ≡ unary_on
  unfolding expr_on
  on_cast = refl

  abbrev prefix_starts : List ℕ
  prefix_starts = kinds unary_operators ++ primary_starts

  starts_prefixed : Starts prefix_starts (IsPrefix src SE SD unary_operators at.Cast or IsPostfix src SE SD)
  starts_prefixed = starts_either prefix_starts (IsPrefix src SE SD unary_operators at.Cast) (IsPostfix src SE SD)
      (starts_wider (kinds unary_operators) (IsPrefix src SE SD unary_operators at.Cast) (starts_prefix src SE SD unary_operators at.Cast) prefix_starts refl) (starts_wider primary_starts (IsPostfix src SE SD) (starts_postfix src SE SD) prefix_starts refl)

  starts_stepped : Starts (kinds step_operators ++ prefix_starts) (IsPrefix src SE SD step_operators at.Unary or IsPrefix src SE SD unary_operators at.Cast or IsPostfix src SE SD)
  starts_stepped = starts_either (kinds step_operators ++ prefix_starts) (IsPrefix src SE SD step_operators at.Unary) (IsPrefix src SE SD unary_operators at.Cast or IsPostfix src SE SD)
      (starts_wider (kinds step_operators) (IsPrefix src SE SD step_operators at.Unary) (starts_prefix src SE SD step_operators at.Unary) (kinds step_operators ++ prefix_starts) refl)
      (starts_wider prefix_starts (IsPrefix src SE SD unary_operators at.Cast or IsPostfix src SE SD) starts_prefixed (kinds step_operators ++ prefix_starts) refl)

  again_unary : Again (suc n) (IsUnary src SE SD) (unary src E D) (Off unary_on)
  unfolding unary
  again_unary = again_if (sizeof_word ∷ []) (kinds step_operators ++ prefix_starts) (sizeof_word ∷ []) (starts_sizeof src SE SD) refl starts_stepped refl again_sizeof
      (again_if (kinds step_operators) prefix_starts (kinds step_operators) (starts_prefix src SE SD step_operators at.Unary) refl starts_prefixed refl (again_prefix step_operators at.Unary on_unary)
      (again_if (kinds unary_operators) primary_starts (kinds unary_operators) (starts_prefix src SE SD unary_operators at.Cast) refl (starts_postfix src SE SD) refl (again_prefix unary_operators at.Cast on_cast) again_postfix))

  again_typed : Again (suc n) (IsTyped src SE SD) (typed src E D) (Off unary_on)
  unfolding typed
  again_typed = again_after (λ t. again_seq again_type_name (λ ty. clear_one close_paren parameter_on _ refl) (λ ty. again_behind (λ _.
      again_seq (again_ahead (λ rest q. (let P : List ℕ → Type 0 = λ ks. Off ks rest in subst P (sym on_cast) q)) (he at.Cast)) (λ x. clear_is _ (Off unary_on) (Off unary_on) (λ rest q. q)) (λ x. again_is n (cast_node t.line ty x)))))

  again_cast : Again (suc n) (IsCast src SE SD) (cast src E D) (Off unary_on)
  unfolding cast
  again_cast = again_choose begins_type again_typed again_unary
      (λ x f rest h p. pair_type f rest (pair_one open_paren specifier_starts _ (λ t. starts_sequence specifier_starts (IsTypeName src SE SD) (starts_type_name src SE SD) _) x f h)) (λ x f rest h p. unary_not src SE SD se x f rest h)

  -- ---- levels

  starts_operation : (l : ℕ) → Starts (kinds (binary_operators l)) (IsOperation src SE SD (binary_operators l) (IsLevel src SE SD l))
  starts_operation l = starts_sequence (kinds (binary_operators l)) (Sign (binary_operators l)) (starts_sign (binary_operators l)) _

  again_level : (l : ℕ) → Again (suc n) (IsLevel src SE SD l) (level src E D l) (Off (level_on l))
  unfolding level level_on
  again_level zero = again_cast
  again_level (suc l) = again_seq (again_level l)
      (λ x. clear_grown (operated src SE SD) x (clear_starts (kinds (binary_operators l)) (level_on l) (starts_operation l) (level_apart l)) (off_within (level_on l) (kinds (binary_operators l) ++ level_on l) (within_right (kinds (binary_operators l)) (level_on l))))
      (λ x. again_repeat (kinds (binary_operators l)) (level_on l) (kinds (binary_operators l) ++ level_on l) (operated src SE SD)
      (again_behind (λ p. again_seq (again_level l) (λ y. clear_is (p, y) (Off (level_on l)) (Off (level_on l)) (λ rest q. q)) (λ y. again_is (suc n) (p, y))))
      (starts_operation l) (level_apart l) (within_self (kinds (binary_operators l))) (within_left (kinds (binary_operators l)) (level_on l)) (within_right (kinds (binary_operators l)) (level_on l)) x)

  again_branches : Again (suc n) (IsBranches src SE SD) (branches src E D) (Off (expr_on at.Conditional))
  unfolding branches expr_on level_on binary_operators
  again_branches = again_after (λ t. again_seq (he at.Expression) (λ first. clear_one colon (expr_on at.Expression) _ refl) (λ first. again_behind (λ _.
      again_seq (he at.Conditional) (λ second. clear_is _ (Off (expr_on at.Conditional)) (Off (expr_on at.Conditional)) (λ rest q. q)) (λ second. again_is n _))))

  starts_branches : Starts (question ∷ []) (IsBranches src SE SD)
  starts_branches = starts_sequence (question ∷ []) (One question) (starts_one question) _

  pub again_conditional : Again (suc n) (IsConditional src SE SD) (conditional src E D) (Off (expr_on at.Conditional))
  unfolding conditional expr_on level_on binary_operators
  again_conditional = again_seq (again_level levels)
      (λ x. clear_or (clear_starts (question ∷ []) (level_on levels) (starts_sequence (question ∷ []) (IsBranches src SE SD) starts_branches _) refl) (clear_is x (Off (level_on levels)) (Off (expr_on at.Conditional)) (off_within (level_on levels) (expr_on at.Conditional) refl)))
      (λ x. again_maybe (question ∷ []) (question ∷ []) (starts_sequence (question ∷ []) (IsBranches src SE SD) starts_branches _) refl (clear_is x (Off (question ∷ [])) (Off (expr_on at.Conditional)) (off_within (question ∷ []) (expr_on at.Conditional) refl))
      (again_map (λ f. f x) again_branches) (again_is (suc n) x))

  again_assigned : (x : Expr) → Again (suc n) (IsAssigned src SE SD x) (assigned src E D x) (Off (expr_on at.Assignment))
  unfolding assigned
  again_assigned x = again_after (λ p. again_seq (he at.Assignment) (λ y. clear_is (assign_node x p.0 p.1 y) (Off (expr_on at.Assignment)) (Off (expr_on at.Assignment)) (λ rest q. q)) (λ y. again_is n (assign_node x p.0 p.1 y)))

  starts_assigned : (x : Expr) → Starts (kinds assignment_operators) (IsAssigned src SE SD x)
  starts_assigned x = starts_sequence (kinds assignment_operators) (Sign assignment_operators) (starts_sign assignment_operators) _

  again_left : (b : Bool) (x : Expr) → Again (suc n) (behind_left src SE SD b x) (choose (λ w. b && begins (kinds assignment_operators) w) (assigned src E D x) (pure x)) (Off (expr_on at.Assignment))
  unfolding expr_on level_on binary_operators
  again_left true x = again_maybe (kinds assignment_operators) (kinds assignment_operators) (starts_assigned x) refl (clear_is x (Off (kinds assignment_operators)) (Off (expr_on at.Assignment)) (off_within (kinds assignment_operators) (expr_on at.Assignment) refl)) (again_assigned x) (again_is (suc n) x)
  again_left false x = again_is (suc n) x

  clear_left : (b : Bool) (x : Expr) → Clear (Off (expr_on at.Conditional)) (behind_left src SE SD b x) (Off (expr_on at.Assignment))
  unfolding expr_on level_on binary_operators
  clear_left true x = clear_or (clear_starts (kinds assignment_operators) (expr_on at.Conditional) (starts_assigned x) refl) (clear_is x (Off (expr_on at.Conditional)) (Off (expr_on at.Assignment)) (off_within (expr_on at.Conditional) (expr_on at.Assignment) refl))
  clear_left false x = clear_is x (Off (expr_on at.Conditional)) (Off (expr_on at.Assignment)) (off_within (expr_on at.Conditional) (expr_on at.Assignment) refl)

  right_of : (b : Bool) (x y : Expr) (w : List Token) → b ≡ true → IsAssigned src SE SD x y w → behind_left src SE SD b x y w
  right_of true x y w e h = inl h
  right_of false x y w e h = absurd (false_is_not_true e)

  nothing_behind : (b : Bool) (x : Expr) → behind_left src SE SD b x x []
  nothing_behind true x = inr (refl, refl)
  nothing_behind false x = (refl, refl)

  assignment_left : (y : Expr) (w : List Token) → IsAssignment src SE SD y w → Sequence (IsConditional src SE SD) (λ x. behind_left src SE SD (is_unary x) x) y w
  assignment_left y w (inl h) = record { of = y; front = w; back = []; parts = sym (append-nil w); first = h; second = nothing_behind (is_unary y) y }
  assignment_left y w (inr h) = record {
    of = h.of;
    front = h.front;
    back = h.back;
    parts = h.parts;
    first = conditional_of_unary src SE SD h.of h.front h.first;
    second = right_of (is_unary h.of) h.of y h.back (unary_is_unary src SE SD h.of h.front h.first) h.second;
  }

  pub again_assignment : Again (suc n) (IsAssignment src SE SD) (assignment src E D) (Off (expr_on at.Assignment))
  unfolding assignment
  again_assignment = again_narrower assignment_left (again_seq again_conditional (λ x. clear_left (is_unary x) x) (λ x. again_left (is_unary x) x))

  pub again_expression : Again (suc n) (IsExpression src SE SD) (expression src E D) (Off (expr_on at.Expression))
  unfolding expression expr_on level_on binary_operators
  again_expression = again_seq again_assignment
      (λ x. clear_sequence (clear_grown with_operand ([], x) (clear_starts (comma ∷ []) (expr_on at.Assignment) (starts_comma (IsAssignment src SE SD)) refl) (off_within (expr_on at.Assignment) (expr_on at.Expression) refl))
      (λ p. clear_is (comma_node p) (Off (expr_on at.Expression)) (Off (expr_on at.Expression)) (λ rest q. q)))
      (λ x. again_seq (again_repeat (comma ∷ []) (expr_on at.Assignment) (expr_on at.Expression) with_operand (again_behind (λ _. again_assignment)) (starts_comma (IsAssignment src SE SD)) refl refl refl refl ([], x))
      (λ p. clear_is (comma_node p) (Off (expr_on at.Expression)) (Off (expr_on at.Expression)) (λ rest q. q)) (λ p. again_is (suc n) (comma_node p)))

  pub again_expr_line : (start : Start) → Again (suc n) (IsExprLine src SE SD start) (expr_line src E D start) (Off (expr_on start))
  unfolding expr_on
  again_expr_line at.Expression = again_expression
  again_expr_line at.Assignment = again_assignment
  again_expr_line at.Conditional = again_conditional
  again_expr_line at.Cast = again_cast
  again_expr_line at.Unary = again_unary
