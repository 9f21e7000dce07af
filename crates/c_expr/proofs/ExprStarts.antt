-- What the lines of expressions and declarators begin with.
use Rattle.std.proofs.Common.{◌≡◌, ℕ, zero, suc, true, List, [], ◌∷◌, ◌++◌, refl, ap, sym, ◌∙◌, Some, option_map, fold, inl, inr}
use Rattle.std.proofs.lemmas.List.{append_assoc}
use Rattle.c_lexer.specs.declared.token.Token.{Token}
use Rattle.c_lexer.specs.declared.token.TokenKind.{TokenKind}
use Rattle.c_lexer.specs.declared.token.TokenKind.TheVariants.{Keyword, Name, Number, Character, Text, Punct}
use Rattle.c_tree.specs.declared.operator.PrefixOp.{PrefixOp}
use Rattle.c_tree.specs.declared.expression.Expr.{Expr}
use Rattle.c_tree.specs.declared.expression.Declarator.{Declarator}
use Rattle.c_tree.specs.declared.expression.Direct.{Direct}
use Rattle.c_tree.specs.declared.expression.Suffix.{Suffix}
use Rattle.c_tree.specs.declared.specifier.Pointer.{Pointer}
use Rattle.c_expr.specs.declared.start.Start.{Start}
use Rattle.c_expr.specs.declared.start.Start.TheVariants as at
use Rattle.c_expr.specs.declared.start.Naming.{Naming}
use Rattle.c_expr.specs.declared.start.Naming.TheVariants as n
use Rattle.c_expr.specs.Codes.{Table, code_of, one_of, kinds, name, number, character, text, open_bracket, open_paren, star, sizeof_word, step_operators, unary_operators, postfix_operators, specifier_starts, postfix_starts, suffix_starts, declarator_starts, levels}
use Rattle.c_expr.specs.Spelling.{Spelling, Means, One, Sign, Is, Sequence, Many, Some_of, In_parens, ◌or◌, line_at}
use Rattle.c_expr.specs.Nodes.{Bytes, constant_node, at_line, declarator_node}
use Rattle.c_expr.specs.Grammar.{IsSpecifiers, IsPointer, IsPointers, IsArray, IsParameter, IsFunction, IsSuffix, IsNamed, IsNested, IsBare, IsCore, IsPointerAlone, IsDeclaratorLine, IsTypeName, IsName, IsConstant, IsTexts, IsParenthesized, IsPrimary, IsIndex, IsCall, IsStep, IsPostfix, IsSizeof, IsPrefix, IsUnary, IsTyped, IsCast, IsLevel, IsConditional, IsAssigned, IsAssignment, IsExpression, IsExprLine, ExprAt, DeclaratorAt}
use Rattle.c_expr.proofs.Repeat.{Filled}
use Rattle.c_expr.proofs.Starts.{Opens, Starts, starts_filled, starts_wider, starts_sequence, starts_either, starts_one, starts_sign}
use Rattle.c_expr.proofs.Words.{starts_specifiers, starts_pointer}

abbrev pub primary_starts : List ℕ
primary_starts = name ∷ text ∷ open_paren ∷ number ∷ character ∷ []

-- what an expression begins with
abbrev pub expr_starts : List ℕ
expr_starts = sizeof_word ∷ kinds unary_operators ++ kinds step_operators ++ primary_starts

constant_kind : (kind : TokenKind) (line : ℕ) (x : Expr) → option_map (at_line line) (constant_node kind) ≡ Some x → one_of (number ∷ character ∷ []) (code_of kind) ≡ true
constant_kind (Number ty v) line x e = refl
constant_kind (Character v) line x e = refl
constant_kind Name line x e = absurd (cc)
constant_kind Text line x e = absurd (cc)
constant_kind (Keyword i) line x e = absurd (cc)
constant_kind (Punct i) line x e = absurd (cc)

pub starts_constant : Starts (number ∷ character ∷ []) (Means (λ t. option_map (at_line t.line) (constant_node t.kind)))
starts_constant x w h = record { first = h.0; rest = []; parts = h.1; kind = constant_kind h.0.kind h.0.line x h.2 }

module _ (src : Bytes) (SE : Start → Spelling Expr) (SD : Naming → Spelling Declarator) where
  -- ---- declarators

  pub starts_array : Starts (open_bracket ∷ []) (IsArray src SE SD)
  starts_array = starts_sequence (open_bracket ∷ []) (One open_bracket) (starts_one open_bracket) _

  pub starts_function : Starts (open_paren ∷ []) (IsFunction src SE SD)
  starts_function = starts_sequence (open_paren ∷ []) (One open_paren) (starts_one open_paren) _

  pub starts_suffix : Starts suffix_starts (IsSuffix src SE SD)
  starts_suffix = starts_either suffix_starts (IsArray src SE SD) (IsFunction src SE SD)
      (starts_wider (open_bracket ∷ []) (IsArray src SE SD) starts_array suffix_starts refl) (starts_wider (open_paren ∷ []) (IsFunction src SE SD) starts_function suffix_starts refl)

  pub starts_parameter : Starts specifier_starts (IsParameter src SE SD)
  starts_parameter = starts_sequence specifier_starts IsSpecifiers starts_specifiers _

  pub starts_type_name : Starts specifier_starts (IsTypeName src SE SD)
  starts_type_name = starts_sequence specifier_starts IsSpecifiers starts_specifiers _

  pub starts_named : Starts (name ∷ []) (IsNamed src SE SD)
  starts_named = starts_sequence (name ∷ []) (One name) (starts_one name) _

  pub starts_in_parens : {A : Type 0} (S : Spelling A) → Starts (open_paren ∷ []) (In_parens S)
  starts_in_parens S = starts_sequence (open_paren ∷ []) (One open_paren) (starts_one open_paren) _

  pub starts_nested : (naming : Naming) → Starts (open_paren ∷ []) (IsNested src SE SD naming)
  starts_nested naming = starts_sequence (open_paren ∷ []) (In_parens (SD naming)) (starts_in_parens (SD naming)) _

  pub starts_bare : Starts suffix_starts (IsBare src SE SD)
  starts_bare = starts_sequence suffix_starts (Some_of (IsSuffix src SE SD)) (starts_sequence suffix_starts (IsSuffix src SE SD) starts_suffix _) _

  pub starts_core : (naming : Naming) → Starts declarator_starts (IsCore src SE SD naming)
  starts_core n.Named = starts_either declarator_starts (IsNamed src SE SD) (IsNested src SE SD n.Named)
      (starts_wider (name ∷ []) (IsNamed src SE SD) starts_named declarator_starts refl) (starts_wider (open_paren ∷ []) (IsNested src SE SD n.Named) (starts_nested n.Named) declarator_starts refl)
  starts_core n.Unnamed = starts_either declarator_starts (IsNested src SE SD n.Unnamed) (IsBare src SE SD)
      (starts_wider (open_paren ∷ []) (IsNested src SE SD n.Unnamed) (starts_nested n.Unnamed) declarator_starts refl) (starts_wider suffix_starts (IsBare src SE SD) starts_bare declarator_starts refl)
  starts_core n.Either = starts_either declarator_starts (IsNamed src SE SD) (IsNested src SE SD n.Either or IsBare src SE SD)
      (starts_wider (name ∷ []) (IsNamed src SE SD) starts_named declarator_starts refl)
      (starts_either declarator_starts (IsNested src SE SD n.Either) (IsBare src SE SD)
      (starts_wider (open_paren ∷ []) (IsNested src SE SD n.Either) (starts_nested n.Either) declarator_starts refl) (starts_wider suffix_starts (IsBare src SE SD) starts_bare declarator_starts refl))

  -- behind no pointer there is a core
  no_pointer : (naming : Naming) (ps : List Pointer) (x : Direct × List Suffix) (w : List Token) → ps ≡ [] → IsPointerAlone src SE SD naming ps x w → ⊥
  no_pointer n.Named ps x w e h = h
  no_pointer n.Unnamed [] x w e h = h
  no_pointer n.Unnamed (p ∷ ps) x w e h = cc
  no_pointer n.Either [] x w e h = h
  no_pointer n.Either (p ∷ ps) x w e h = cc

  behind_pointers : (naming : Naming) (ys ps : List Pointer) (front back : List Token) (x : Direct × List Suffix) → Many IsPointer ys front → ps ≡ fold (λ xs y. xs ++ y ∷ []) [] ys
      → (IsCore src SE SD naming or IsPointerAlone src SE SD naming ps) x back → Opens declarator_starts (front ++ back)
  behind_pointers naming [] ps front back x h e (inl core) =
      let r = starts_core naming x back core in record { first = r.first; rest = r.rest; parts = ap (λ v. v ++ back) h ∙ r.parts; kind = r.kind }
  behind_pointers naming [] ps front back x h e (inr alone) = absurd (no_pointer naming ps x back e alone)
  behind_pointers naming (y ∷ ys) ps front back x h e other =
      let r = starts_wider (star ∷ []) IsPointer starts_pointer declarator_starts refl y h.0 h.3 in
      record { first = r.first; rest = (r.rest ++ h.1) ++ back; parts = ap (λ v. v ++ back) h.2 ∙ ap (λ v. (v ++ h.1) ++ back) r.parts; kind = r.kind }

  pub starts_declarator_line : (naming : Naming) → Starts declarator_starts (IsDeclaratorLine src SE SD naming)
  starts_declarator_line naming x w h =
      let r = behind_pointers naming h.first.0 h.of h.front h.second.front h.second.of h.first.1 h.first.2 h.second.first in
      record { first = r.first; rest = r.rest ++ h.second.back; parts = h.parts ∙ (ap (λ v. h.front ++ v) h.second.parts ∙ (sym (append_assoc h.front h.second.front h.second.back) ∙ ap (λ v. v ++ h.second.back) r.parts)); kind = r.kind }

  abbrev pub on_line : Naming → ℕ → Spelling Declarator
  on_line naming line = Sequence IsPointers (λ ps. Sequence (IsCore src SE SD naming or IsPointerAlone src SE SD naming ps) (λ found. Is (declarator_node line ps found.0 found.1)))

  pub moved : (naming : Naming) (l k : ℕ) (x : Declarator) (w : List Token) → on_line naming l x w → (y : Declarator) × on_line naming k y w
  moved naming l k x w h = (
    declarator_node k h.of h.second.of.0 h.second.of.1,
    record {
      of = h.of;
      front = h.front;
      back = h.back;
      parts = h.parts;
      first = h.first;
      second = record { of = h.second.of; front = h.second.front; back = h.second.back; parts = h.second.parts; first = h.second.first; second = (refl, h.second.second.1) };
    },
  )

  pub filled_line : (naming : Naming) (line : ℕ) → Filled (on_line naming line)
  filled_line naming line x w h = let y = moved naming line (line_at w) x w h in starts_filled declarator_starts (IsDeclaratorLine src SE SD naming) (starts_declarator_line naming) y.0 w y.1

  -- ---- expressions

  pub starts_parenthesized : Starts (open_paren ∷ []) (IsParenthesized src SE SD)
  starts_parenthesized = starts_sequence (open_paren ∷ []) (One open_paren) (starts_one open_paren) _

  pub starts_texts : Starts (text ∷ []) (IsTexts src SE SD)
  starts_texts = starts_sequence (text ∷ []) (One text) (starts_one text) _

  pub starts_name : Starts (name ∷ []) (IsName src SE SD)
  starts_name = starts_sequence (name ∷ []) (One name) (starts_one name) _

  pub starts_primary : Starts primary_starts (IsPrimary src SE SD)
  starts_primary = starts_either primary_starts (IsName src SE SD) (IsTexts src SE SD or IsParenthesized src SE SD or IsConstant src SE SD) (starts_wider (name ∷ []) (IsName src SE SD) starts_name primary_starts refl)
      (starts_either primary_starts (IsTexts src SE SD) (IsParenthesized src SE SD or IsConstant src SE SD) (starts_wider (text ∷ []) (IsTexts src SE SD) starts_texts primary_starts refl)
      (starts_either primary_starts (IsParenthesized src SE SD) (IsConstant src SE SD) (starts_wider (open_paren ∷ []) (IsParenthesized src SE SD) starts_parenthesized primary_starts refl)
      (starts_wider (number ∷ character ∷ []) (IsConstant src SE SD) starts_constant primary_starts refl)))

  pub starts_index : Starts (open_bracket ∷ []) (IsIndex src SE SD)
  starts_index = starts_sequence (open_bracket ∷ []) (One open_bracket) (starts_one open_bracket) _

  pub starts_call : Starts (open_paren ∷ []) (IsCall src SE SD)
  starts_call = starts_sequence (open_paren ∷ []) (One open_paren) (starts_one open_paren) _

  pub starts_step : Starts (kinds postfix_operators) (IsStep src SE SD)
  starts_step = starts_sequence (kinds postfix_operators) (Sign postfix_operators) (starts_sign postfix_operators) _

  pub starts_part : Starts postfix_starts (IsIndex src SE SD or IsCall src SE SD or IsStep src SE SD)
  starts_part = starts_either postfix_starts (IsIndex src SE SD) (IsCall src SE SD or IsStep src SE SD) (starts_wider (open_bracket ∷ []) (IsIndex src SE SD) starts_index postfix_starts refl)
      (starts_either postfix_starts (IsCall src SE SD) (IsStep src SE SD) (starts_wider (open_paren ∷ []) (IsCall src SE SD) starts_call postfix_starts refl)
      (starts_wider (kinds postfix_operators) (IsStep src SE SD) starts_step postfix_starts refl))

  pub starts_postfix : Starts primary_starts (IsPostfix src SE SD)
  starts_postfix = starts_sequence primary_starts (IsPrimary src SE SD) starts_primary _

  pub starts_sizeof : Starts (sizeof_word ∷ []) (IsSizeof src SE SD)
  starts_sizeof = starts_sequence (sizeof_word ∷ []) (One sizeof_word) (starts_one sizeof_word) _

  pub starts_prefix : (table : Table PrefixOp) (start : Start) → Starts (kinds table) (IsPrefix src SE SD table start)
  starts_prefix table start = starts_sequence (kinds table) (Sign table) (starts_sign table) _

  pub starts_unary : Starts expr_starts (IsUnary src SE SD)
  starts_unary =
      starts_either expr_starts (IsSizeof src SE SD) (IsPrefix src SE SD step_operators at.Unary or IsPrefix src SE SD unary_operators at.Cast or IsPostfix src SE SD) (starts_wider (sizeof_word ∷ []) (IsSizeof src SE SD) starts_sizeof expr_starts refl)
      (starts_either expr_starts (IsPrefix src SE SD step_operators at.Unary) (IsPrefix src SE SD unary_operators at.Cast or IsPostfix src SE SD)
      (starts_wider (kinds step_operators) (IsPrefix src SE SD step_operators at.Unary) (starts_prefix step_operators at.Unary) expr_starts refl)
      (starts_either expr_starts (IsPrefix src SE SD unary_operators at.Cast) (IsPostfix src SE SD)
      (starts_wider (kinds unary_operators) (IsPrefix src SE SD unary_operators at.Cast) (starts_prefix unary_operators at.Cast) expr_starts refl)
      (starts_wider primary_starts (IsPostfix src SE SD) starts_postfix expr_starts refl)))

  pub starts_typed : Starts (open_paren ∷ []) (IsTyped src SE SD)
  starts_typed = starts_sequence (open_paren ∷ []) (One open_paren) (starts_one open_paren) _

  pub starts_cast : Starts expr_starts (IsCast src SE SD)
  starts_cast = starts_either expr_starts (IsTyped src SE SD) (IsUnary src SE SD) (starts_wider (open_paren ∷ []) (IsTyped src SE SD) starts_typed expr_starts refl) starts_unary

  pub starts_level : (level : ℕ) → Starts expr_starts (IsLevel src SE SD level)
  starts_level zero = starts_cast
  starts_level (suc level) = starts_sequence expr_starts (IsLevel src SE SD level) (starts_level level) _

  pub starts_conditional : Starts expr_starts (IsConditional src SE SD)
  starts_conditional = starts_sequence expr_starts (IsLevel src SE SD levels) (starts_level levels) _

  pub starts_assignment : Starts expr_starts (IsAssignment src SE SD)
  starts_assignment = starts_either expr_starts (IsConditional src SE SD) (Sequence (IsUnary src SE SD) (IsAssigned src SE SD)) starts_conditional (starts_sequence expr_starts (IsUnary src SE SD) starts_unary _)

  pub starts_expression : Starts expr_starts (IsExpression src SE SD)
  starts_expression = starts_sequence expr_starts (IsAssignment src SE SD) starts_assignment _

  pub starts_expr_line : (start : Start) → Starts expr_starts (IsExprLine src SE SD start)
  starts_expr_line at.Expression = starts_expression
  starts_expr_line at.Assignment = starts_assignment
  starts_expr_line at.Conditional = starts_conditional
  starts_expr_line at.Cast = starts_cast
  starts_expr_line at.Unary = starts_unary

-- ---- at any depth

pub starts_expr : (src : Bytes) (depth : ℕ) (start : Start) → Starts expr_starts (ExprAt src depth start)
unfolding ExprAt
starts_expr src zero start x w h = absurd h
starts_expr src (suc depth) start x w h = starts_expr_line src (ExprAt src depth) (DeclaratorAt src depth) start x w h

pub starts_declarator : (src : Bytes) (depth : ℕ) (naming : Naming) → Starts declarator_starts (DeclaratorAt src depth naming)
unfolding DeclaratorAt
starts_declarator src zero naming x w h = absurd h
starts_declarator src (suc depth) naming x w h = starts_declarator_line src (ExprAt src depth) (DeclaratorAt src depth) naming x w h
