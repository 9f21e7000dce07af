-- The readers of expressions and declarators at a depth read what is spelled by at most so many tokens.
use Rattle.std.proofs.Common.{◌≡◌, ℕ, zero, suc, ◌<◌, false, List, [], ◌∷◌, ◌++◌, length, fold, refl, ap, sym, ◌∙◌, Result, Ok, inl, inr, arith}
use Rattle.std.proofs.lemmas.List.{append-nil, append_assoc}
use Rattle.c_lexer.specs.declared.token.Token.{Token}
use Rattle.c_tree.specs.declared.expression.Expr.{Expr}
use Rattle.c_tree.specs.declared.expression.Declarator.{Declarator}
use Rattle.c_tree.specs.declared.expression.Direct.{Direct}
use Rattle.c_tree.specs.declared.expression.Suffix.{Suffix}
use Rattle.c_tree.specs.declared.specifier.Pointer.{Pointer}
use Rattle.c_expr.specs.declared.start.Start.{Start}
use Rattle.c_expr.specs.declared.start.Start.TheVariants as at
use Rattle.c_expr.specs.declared.start.Naming.{Naming}
use Rattle.c_expr.specs.declared.start.Naming.TheVariants as how
use Rattle.c_expr.specs.Codes.{star, abstract_starts, suffix_starts, open_paren}
use Rattle.c_expr.specs.Nodes.{Bytes}
use Rattle.c_expr.specs.Spelling.{Spelling, Many, ◌or◌}
use Rattle.c_expr.specs.Grammar.{IsPointer, IsNested, IsBare, IsCore, IsPointerAlone, IsDeclaratorLine, ExprAt, DeclaratorAt, DerivesExpression}
use Rattle.c_expr.specs.Reading.{Reader, begins, begins_type, expr_at, declarator_at}
use Rattle.c_expr.proofs.Alike.{ok_same}
use Rattle.c_expr.proofs.Starts.{Opens, Starts, starts_either, starts_wider, starts_filled}
use Rattle.c_expr.proofs.Words.{starts_pointer}
use Rattle.c_expr.proofs.ExprStarts.{starts_expr, starts_declarator, starts_nested, starts_bare}
use Rattle.c_expr.proofs.Again.{Again, Off}
use Rattle.c_expr.proofs.ExprAgain.{expr_on, declarator_on, again_expr_line, again_declarator_line, unary_not}

-- ---- a declarator without a name

module _ (src : Bytes) (SE : Start → Spelling Expr) (SD : Naming → Spelling Declarator) where
  unnamed_core : Starts abstract_starts (IsCore src SE SD how.Unnamed)
  unnamed_core = starts_either abstract_starts (IsNested src SE SD how.Unnamed) (IsBare src SE SD) (starts_wider (open_paren ∷ []) (IsNested src SE SD how.Unnamed) (starts_nested src SE SD how.Unnamed) abstract_starts refl)
      (starts_wider suffix_starts (IsBare src SE SD) (starts_bare src SE SD) abstract_starts refl)

  alone : (ps : List Pointer) (x : Direct × List Suffix) (w : List Token) → ps ≡ [] → IsPointerAlone src SE SD how.Unnamed ps x w → ⊥
  alone [] x w e h = h
  alone (p ∷ ps) x w e h = cc

  behind : (ys ps : List Pointer) (front back : List Token) (x : Direct × List Suffix) → Many IsPointer ys front → ps ≡ fold (λ xs y. xs ++ y ∷ []) [] ys
      → (IsCore src SE SD how.Unnamed or IsPointerAlone src SE SD how.Unnamed ps) x back → Opens abstract_starts (front ++ back)
  behind [] ps front back x h e (inl core) = let r = unnamed_core x back core in record { first = r.first; rest = r.rest; parts = ap (λ v. v ++ back) h ∙ r.parts; kind = r.kind }
  behind [] ps front back x h e (inr none) = absurd (alone ps x back e none)
  behind (y ∷ ys) ps front back x h e other =
      let r = starts_wider (star ∷ []) IsPointer starts_pointer abstract_starts refl y h.0 h.3 in
      record { first = r.first; rest = (r.rest ++ h.1) ++ back; parts = ap (λ v. v ++ back) h.2 ∙ ap (λ v. (v ++ h.1) ++ back) r.parts; kind = r.kind }

  starts_unnamed_line : Starts abstract_starts (IsDeclaratorLine src SE SD how.Unnamed)
  starts_unnamed_line x w h =
      let r = behind h.first.0 h.of h.front h.second.front h.second.of h.first.1 h.first.2 h.second.first in
      record { first = r.first; rest = r.rest ++ h.second.back; parts = h.parts ∙ (ap (λ v. h.front ++ v) h.second.parts ∙ (sym (append_assoc h.front h.second.front h.second.back) ∙ ap (λ v. v ++ h.second.back) r.parts)); kind = r.kind }

pub starts_unnamed_at : (src : Bytes) (depth : ℕ) → Starts abstract_starts (DeclaratorAt src depth how.Unnamed)
unfolding DeclaratorAt
starts_unnamed_at src zero x w h = absurd h
starts_unnamed_at src (suc depth) x w h = starts_unnamed_line src (ExprAt src depth) (DeclaratorAt src depth) x w h

unary_at_not : (src : Bytes) (depth : ℕ) (x : Expr) (w rest : List Token) → ExprAt src depth at.Unary x w → begins_type (w ++ rest) ≡ false
unfolding ExprAt
unary_at_not src zero x w rest h = absurd h
unary_at_not src (suc depth) x w rest h = unary_not src (ExprAt src depth) (DeclaratorAt src depth) (starts_expr src depth) x w rest h

-- ---- at each depth

pub record AgainAt (src : Bytes) (depth n : ℕ) : Type 0 where
  pub expr : (start : Start) → Again n (ExprAt src depth start) (expr_at src n start) (Off (expr_on start))
  pub declarator : (naming : Naming) → Again n (DeclaratorAt src depth naming) (declarator_at src n naming) (Off declarator_on)

-- no tokens spell nothing
pub nothing : {A : Type 0} {S : Spelling A} {R : Reader A} {P : List Token → Type 0} → ((x : A) (w : List Token) → S x w → 0 < length w) → Again 0 S R P
nothing filled = record { read = λ x f rest h few p. (let full = filled x f h in absurd (omega (arith, full, few))) }

pub again_at : (src : Bytes) (depth n : ℕ) → AgainAt src depth n
unfolding ExprAt DeclaratorAt expr_at declarator_at
again_at src zero n = record { expr = λ start. record { read = λ x f rest h few p. absurd h }; declarator = λ naming. record { read = λ x f rest h few p. absurd h } }
again_at src (suc depth) zero = record { expr = λ start. nothing (starts_filled _ (ExprAt src (suc depth) start) (starts_expr src (suc depth) start)); declarator = λ naming. nothing (starts_filled _ (DeclaratorAt src (suc depth) naming) (starts_declarator src (suc depth) naming)) }
again_at src (suc depth) (suc n) =
    let below = again_at src depth n in
    record {
      expr = λ start. again_expr_line src n (ExprAt src depth) (DeclaratorAt src depth) (expr_at src n) (declarator_at src n) below.expr below.declarator (starts_expr src depth) (starts_declarator src depth) (starts_unnamed_at src depth) (unary_at_not src depth) start;
      declarator = λ naming. again_declarator_line src n (ExprAt src depth) (DeclaratorAt src depth) (expr_at src n) (declarator_at src n) below.expr below.declarator (starts_expr src depth) (starts_declarator src depth) (starts_unnamed_at src depth) (unary_at_not src depth) naming;
    }

-- ---- the whole of some tokens

pub expression_again : (src : Bytes) (w : List Token) (x : Expr) → DerivesExpression w src x → expr_at src (length w) at.Expression w ≡ Ok (x, [])
unfolding begins
expression_again src w x h = ap (expr_at src (length w) at.Expression) (sym (append-nil w)) ∙ ((again_at src h.0 (length w)).expr at.Expression).read x w [] h.1 (omega arith) refl

pub one_expression_of : (src : Bytes) (w : List Token) (a b : Expr) → DerivesExpression w src a → DerivesExpression w src b → a ≡ b
one_expression_of src w a b h k =
    let both : Path (Result (Expr × List Token) ℕ) (Ok (a, [])) (Ok (b, [])) = sym (expression_again src w a h) ∙ expression_again src w b k in
    ap (λ p. p.0) (ok_same (a, []) (b, []) both)
