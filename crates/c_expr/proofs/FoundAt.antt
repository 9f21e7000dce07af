-- The readers of expressions and declarators at a depth find what is spelled.
use Rattle.std.proofs.Common.{ℕ, zero, suc, ◌≤◌, List, [], ◌∷◌, length, refl, sym, Result, Err, inl, inr, arith}
use Rattle.c_lexer.specs.declared.token.Token.{Token}
use Rattle.c_lexer.specs.declared.token.TokenKind.TheVariants.{Name, Punct}
use Rattle.c_tree.specs.declared.expression.Expr.{Expr}
use Rattle.c_tree.specs.declared.expression.Declarator.{Declarator}
use Rattle.c_tree.specs.declared.expression.Direct.TheVariants as d
use Rattle.c_expr.specs.declared.start.Start.{Start}
use Rattle.c_expr.specs.declared.start.Start.TheVariants as at
use Rattle.c_expr.specs.declared.start.Naming.{Naming}
use Rattle.c_expr.specs.declared.start.Naming.TheVariants as how
use Rattle.c_expr.specs.Codes.{open_paren}
use Rattle.c_expr.specs.Nodes.{Bytes, name_node, pointer_node, direct_name, declarator_node}
use Rattle.c_expr.specs.Spelling.{Spelling}
use Rattle.c_expr.specs.Grammar.{IsNamed, IsCore, IsUnary, IsAssignment, IsExprLine, IsDeclaratorLine, ExprAt, DeclaratorAt}
use Rattle.c_expr.specs.Reading.{Reader, begins, stop, expr_at, declarator_at}
use Rattle.c_expr.proofs.Alike.{ok_is_no_err, err_same, false_is_not_true}
use Rattle.c_expr.proofs.Sound.{Reads, Fault}
use Rattle.c_expr.proofs.Short.{of}
use Rattle.c_expr.proofs.Unary.{conditional_of_unary}
use Rattle.c_expr.proofs.Peek.{Past}
use Rattle.c_expr.proofs.ExprStarts.{starts_expr}
use Rattle.c_expr.proofs.ExprFound.{reads_expr_line, reads_declarator_line, past_unary}

stopped : {A : Type 0} (S : Spelling A) (x : A) (word : List Token) → S x word → (w : List Token) (left : ℕ) → length w ≤ 0 → Path (Result (A × List Token) ℕ) (Err (length w)) (Err left) → Fault S stop w left
stopped {A = A} S x word sample [] left few e =
    record { front = []; rest = []; parts = refl; at = sym (err_same {X = A × List Token} 0 left e); more = word; whole = x; viable = sample; same = λ t r other d. absurd (cc) }
stopped S x word sample (t ∷ w) left few e = absurd (omega arith)

-- no tokens
pub reads_stop : {A : Type 0} (S : Spelling A) (x : A) (word : List Token) → S x word → Reads 0 S stop
reads_stop {A = A} S x word sample = record {
  found = λ w y rest e. absurd (ok_is_no_err {X = A × List Token} (y, rest) (length w) (sym e));
  fault = λ w left few e. stopped S x word sample w left few e;
  whole = x;
  word = word;
  sample = sample;
}

-- ---- samples

module _ (src : Bytes) (SE : Start → Spelling Expr) (SD : Naming → Spelling Declarator) where
  abbrev pub a_name : Expr
  a_name = name_node src (of Name)

  abbrev pub name_word : List Token
  name_word = of Name ∷ []

  sample_unary : IsUnary src SE SD a_name name_word
  sample_unary = inr (inr (inr (record {
    of = a_name;
    front = name_word;
    back = [];
    parts = refl;
    first = inl (record { of = of Name; front = name_word; back = []; parts = refl; first = (of Name, refl, refl); second = (refl, refl) });
    second = ([], refl, refl);
  })))

  sample_assignment : IsAssignment src SE SD a_name name_word
  sample_assignment = inl (conditional_of_unary src SE SD a_name name_word sample_unary)

  pub sample_expr : (start : Start) → IsExprLine src SE SD start a_name name_word
  sample_expr at.Expression = record {
    of = a_name;
    front = name_word;
    back = [];
    parts = refl;
    first = sample_assignment;
    second = record { of = ([], a_name); front = []; back = []; parts = refl; first = ([], refl, refl); second = (refl, refl) };
  }
  sample_expr at.Assignment = sample_assignment
  sample_expr at.Conditional = conditional_of_unary src SE SD a_name name_word sample_unary
  sample_expr at.Cast = inr sample_unary
  sample_expr at.Unary = sample_unary

  abbrev a_star : Token
  a_star = of (Punct 11)

  sample_named : IsNamed src SE SD (direct_name src (of Name), []) name_word
  sample_named = record { of = of Name; front = name_word; back = []; parts = refl; first = (of Name, refl, refl); second = record { of = []; front = []; back = []; parts = refl; first = ([], refl, refl); second = (refl, refl) } }

  named_line : (naming : Naming) → IsCore src SE SD naming (direct_name src (of Name), []) name_word → IsDeclaratorLine src SE SD naming (declarator_node 0 [] (direct_name src (of Name)) []) name_word
  named_line naming h = record {
    of = [];
    front = [];
    back = name_word;
    parts = refl;
    first = ([], refl, refl);
    second = record { of = (direct_name src (of Name), []); front = name_word; back = []; parts = refl; first = inl h; second = (refl, refl) };
  }

  sample_declarator : (naming : Naming) → (x : Declarator) × (w : List Token) × IsDeclaratorLine src SE SD naming x w
  sample_declarator how.Named = (declarator_node 0 [] (direct_name src (of Name)) [], name_word, named_line how.Named (inl sample_named))
  sample_declarator how.Either = (declarator_node 0 [] (direct_name src (of Name)) [], name_word, named_line how.Either (inl sample_named))
  sample_declarator how.Unnamed = (
    declarator_node 0 (pointer_node 0 ∷ []) d.Unnamed [],
    a_star ∷ [],
    record {
      of = pointer_node 0 ∷ [];
      front = a_star ∷ [];
      back = [];
      parts = refl;
      first = (pointer_node 0 ∷ [], (a_star ∷ [], [], refl, record { of = a_star; front = a_star ∷ []; back = []; parts = refl; first = (a_star, refl, refl); second = ([], refl, refl) }, refl), refl);
      second = record { of = (d.Unnamed, []); front = []; back = []; parts = refl; first = inr (refl, refl); second = (refl, refl) };
    },
  )

-- ---- at each depth

pub record FoundAt (src : Bytes) (depth : ℕ) : Type 0 where
  pub expr : (start : Start) → Reads depth (ExprAt src (suc depth) start) (expr_at src depth start)
  pub declarator : (naming : Naming) → Reads depth (DeclaratorAt src (suc depth) naming) (declarator_at src depth naming)
  pub past : Past depth (begins (open_paren ∷ [])) (expr_at src depth at.Unary)

past_none : {A : Type 0} (R : Reader A) → Past 0 (begins (open_paren ∷ [])) R
unfolding begins
past_none R [] left few b e = absurd (false_is_not_true b)
past_none R (t ∷ w) left few b e = absurd (omega arith)

pub found_at : (src : Bytes) (depth : ℕ) → FoundAt src depth
unfolding ExprAt DeclaratorAt expr_at declarator_at
found_at src zero = record {
  expr = λ start. reads_stop (ExprAt src 1 start) (name_node src (of Name)) (of Name ∷ []) (sample_expr src (ExprAt src 0) (DeclaratorAt src 0) start);
  declarator = λ naming. (let s = sample_declarator src (ExprAt src 0) (DeclaratorAt src 0) naming in reads_stop (DeclaratorAt src 1 naming) s.0 s.1 s.2);
  past = past_none (expr_at src 0 at.Unary);
}
found_at src (suc depth) =
    let below = found_at src depth in
    record {
      expr = λ start. reads_expr_line src depth (ExprAt src (suc depth)) (DeclaratorAt src (suc depth)) (expr_at src depth) (declarator_at src depth) below.expr below.declarator (starts_expr src (suc depth)) below.past start;
      declarator = λ naming. reads_declarator_line src depth (ExprAt src (suc depth)) (DeclaratorAt src (suc depth)) (expr_at src depth) (declarator_at src depth) below.expr below.declarator (starts_expr src (suc depth)) below.past naming;
      past = past_unary src depth (ExprAt src (suc depth)) (DeclaratorAt src (suc depth)) (expr_at src depth) (declarator_at src depth) below.expr below.declarator (starts_expr src (suc depth)) below.past;
    }
