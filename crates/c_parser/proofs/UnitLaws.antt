-- The reader of units finds what is spelled and reads it again.
use Rattle.std.proofs.Common.{◌≡◌, ℕ, suc, ◌≤◌, Bool, List, [], ◌∷◌, ◌++◌, length, refl, ap, sym, ◌∙◌, subst, Some, None, Result, Ok, inl, inr, length-append, arith}
use Rattle.std.proofs.lemmas.List.{append-nil, append_assoc}
use Rattle.c_lexer.specs.declared.token.Token.{Token}
use Rattle.c_tree.specs.declared.specifier.Specifier.{Specifier}
use Rattle.c_tree.specs.declared.expression.Expr.{Expr}
use Rattle.c_tree.specs.declared.expression.Declarator.{Declarator}
use Rattle.c_tree.specs.declared.declaration.Item.{Item}
use Rattle.c_expr.specs.declared.start.Start.{Start}
use Rattle.c_expr.specs.declared.start.Naming.{Naming}
use Rattle.c_expr.specs.declared.start.Naming.TheVariants as how
use Rattle.c_expr.specs.Codes.{open_brace, semicolon, equals, comma, specifier_starts, declarator_starts, binary_operators}
use Rattle.c_expr.specs.Nodes.{Bytes}
use Rattle.c_parser.specs.StatementNodes.{item_node, declaration_node}
use Rattle.c_expr.specs.Spelling.{Spelling, One, Is, Sequence, Further, Maybe, ◌or◌, push}
use Rattle.c_expr.specs.Grammar.{IsSpecifiers}
use Rattle.c_parser.specs.Units.{AnyDeclarator, IsGiven, IsItem, IsDeclaration}
use Rattle.c_expr.specs.Reading.{Reader, grown_from, begins, and_then, grown, expr_at, declarator_at}
use Rattle.c_expr.proofs.Sound.{Reads, reads_is, reads_wider, reads_equal}
use Rattle.c_expr.proofs.Starts.{Starts, Opens, starts_filled, starts_one, starts_sequence, starts_either, starts_wider, starts_empty}
use Rattle.c_expr.proofs.Short.{reads_seq, reads_map, reads_if, reads_repeat}
use Rattle.c_expr.proofs.Words.{starts_specifiers, reads_specifiers, starts_comma}
use Rattle.c_expr.proofs.Again.{Ahead, Off, Anything, Again, again_seq, again_is, again_map, again_if, again_repeat, clear_starts, clear_or, again_narrower, again_ahead, again_fewer}
use Rattle.c_expr.proofs.ExprAgain.{expr_on, level_on, declarator_on, again_specifiers, clear_any}
use Rattle.c_tree.specs.declared.statement.Stmt.{Stmt}
use Rattle.c_expr.specs.Spelling.{Many}
use Rattle.c_parser.specs.Units.{IsBlock, StmtAt}
use Rattle.c_parser.specs.ReadingUnits.{block, statement_at}
use Rattle.c_expr.proofs.Alike.{and_then_ok, ok_same}
use Rattle.c_parser.proofs.Declarations.{reads_fewer, declarator_any_reads, starts_declaration}
use Rattle.c_parser.proofs.Statements.{stmt_starts, starts_block, starts_stmt_at}
use Rattle.c_tree.specs.declared.unit.Unit.{Unit as TheUnit}
use Rattle.c_tree.specs.declared.unit.External.{External}
use Rattle.c_tree.specs.declared.unit.External.TheVariants as x
use Rattle.c_parser.specs.StatementNodes.{function_node, unit_node}
use Rattle.c_parser.specs.Units.{AnyStmt, IsFunctionDefinition, IsExternal, Derives}
use Rattle.c_parser.specs.ReadingUnits.{function_body, other_items, external, ended, unit, unit_of}
use Rattle.c_parser.proofs.Statements.{reads_block, reads_told_at, same_at, told_at, plain}
use Rattle.c_parser.proofs.StatementsAgain.{Open, Tail, again_block, again_stmt_at}
use Rattle.c_parser.proofs.Declarations.{IsFurther, reads_given, again_given, reads_further, again_further, item_on, declarator_any_starts, declarator_any_again, starts_given, to_left, from_left}

module _ (src : Bytes) (m : ℕ) where
  abbrev n : ℕ
  n = suc m

  abbrev E : Start → Reader Expr
  E = expr_at src n

  abbrev D : Naming → Reader Declarator
  D = declarator_at src n

  abbrev statement : Reader Stmt
  statement = statement_at E D n n

  starts_any_stmt : Starts stmt_starts (AnyStmt src)
  starts_any_stmt p w h = starts_stmt_at src h.0 p w h.1

  reads_body : Reads n (IsBlock src (AnyStmt src)) (block E D n statement)
  reads_body = reads_equal n (IsBlock src (AnyStmt src)) (block E D n (plain E D n (told_at E D n n))) (block E D n statement) (λ w. ap (λ s. block E D n s w) (same_at E D n n))
      (reads_block src n m (omega arith) (AnyStmt src) (told_at E D n n)
      (reads_fewer (omega arith) (reads_wider n (StmtAt src (suc n)) (AnyStmt src) (told_at E D n n) (λ p w h. (suc n, h)) (reads_told_at src n n (omega arith)))) (starts_filled stmt_starts (AnyStmt src) starts_any_stmt))

  again_any : (b : Bool) → Again n (Open b (AnyStmt src)) statement (Tail b)
  again_any b = record { read = λ x f rest h few p. (again_stmt_at src n h.1.0 n (omega arith) b).read x f rest (h.0, h.1.1, h.2) few p }

  again_body : {P : Ahead} → Again n (IsBlock src (AnyStmt src)) (block E D n statement) P
  again_body = again_block src n m (omega arith) (AnyStmt src) statement (λ b. again_fewer (omega arith) (again_any b)) starts_any_stmt

  -- ---- externals, with their common front read once

  abbrev Body : List Specifier → Declarator → Spelling External
  Body ss declared = Sequence (IsBlock src (AnyStmt src)) (λ body. Is (function_node ss declared body))

  abbrev Rest : List Specifier → Declarator → Spelling External
  Rest ss declared = Sequence (Maybe (IsGiven src)) (λ g. Sequence (IsFurther src n (item_node declared g ∷ [])) (λ items. Is (x.Declaration (declaration_node ss items))))

  abbrev FromFront : Spelling External
  FromFront = Sequence IsSpecifiers (λ ss. Sequence (AnyDeclarator src how.Named) (λ declared. Body ss declared or Rest ss declared))

  to_front : (y : External) (w : List Token) → IsExternal src y w → FromFront y w
  to_front y w (inl h) = record {
    of = h.of;
    front = h.front;
    back = h.back;
    parts = h.parts;
    first = h.first;
    second = record { of = h.second.of; front = h.second.front; back = h.second.back; parts = h.second.parts; first = h.second.first; second = inl h.second.second };
  }
  to_front y w (inr h) =
      let k = to_left src n h.of h.front h.first in
      let it = k.second in
      let g = it.first.second in
      let node : it.of ≡ item_node it.first.of g.of = g.second.0 in
      let P : Item → Type 0 = λ v. IsFurther src n (v ∷ []) it.second.of it.second.front in
      let whole : w ≡ k.front ++ k.back = h.parts ∙ (ap (λ v. h.front ++ v) h.second.1 ∙ (append-nil h.front ∙ k.parts)) in
      let middle : it.first.back ≡ g.front = g.parts ∙ (ap (λ v. g.front ++ v) g.second.1 ∙ append-nil g.front) in
      record {
        of = k.of;
        front = k.front;
        back = k.back;
        parts = whole;
        first = k.first;
        second = record {
          of = it.first.of;
          front = it.first.front;
          back = it.first.back ++ it.back;
          parts = it.parts ∙ (ap (λ v. v ++ it.back) it.first.parts ∙ append_assoc it.first.front it.first.back it.back);
          first = it.first.first;
          second = inr (record {
            of = g.of;
            front = g.front;
            back = it.back;
            parts = ap (λ v. v ++ it.back) middle;
            first = g.first;
            second = record {
              of = it.second.of;
              front = it.second.front;
              back = it.second.back;
              parts = it.second.parts;
              first = subst P node it.second.first;
              second = (h.second.0 ∙ ap x.Declaration it.second.second.0, it.second.second.1);
            };
          });
        };
      }

  from_front : (y : External) (w : List Token) → FromFront y w → IsExternal src y w
  from_front y w h = elim h.second.second [
    | inl body ↦ inl (record {
      of = h.of;
      front = h.front;
      back = h.back;
      parts = h.parts;
      first = h.first;
      second = record { of = h.second.of; front = h.second.front; back = h.second.back; parts = h.second.parts; first = h.second.first; second = body };
    })
    | inr more ↦
        (let node = item_node h.second.of more.of in
        let whole = declaration_node h.of more.second.of in
        inr (record {
          of = whole;
          front = w;
          back = [];
          parts = sym (append-nil w);
          first = from_left src n whole w (record {
            of = h.of;
            front = h.front;
            back = h.back;
            parts = h.parts;
            first = h.first;
            second = record {
              of = node;
              front = h.second.front ++ more.front;
              back = more.back;
              parts = h.second.parts ∙ (ap (λ v. h.second.front ++ v) more.parts ∙ sym (append_assoc h.second.front more.front more.back));
              first = record {
                of = h.second.of;
                front = h.second.front;
                back = more.front;
                parts = refl;
                first = h.second.first;
                second = record { of = more.of; front = more.front; back = []; parts = sym (append-nil more.front); first = more.first; second = (refl, refl) };
              };
              second = record { of = more.second.of; front = more.second.front; back = more.second.back; parts = more.second.parts; first = more.second.first; second = (refl, more.second.second.1) };
            };
          });
          second = (more.second.second.0, refl);
        }))
  ]

  reads_rest : (ss : List Specifier) (declared : Declarator) → Reads n (Rest ss declared) (other_items E D n ss declared)
  unfolding other_items
  reads_rest ss declared = reads_seq (reads_given src n) (λ g. reads_seq (reads_further src n (item_node declared g ∷ [])) (λ items. reads_is n (x.Declaration (declaration_node ss items))))

  reads_function : (ss : List Specifier) (declared : Declarator) → Reads n (Body ss declared) (function_body E D n ss declared)
  unfolding function_body
  reads_function ss declared = reads_map (function_node ss declared) reads_body

  pub reads_external : Reads n (IsExternal src) (external E D n)
  unfolding external
  reads_external = reads_wider n FromFront (IsExternal src) (external E D n) from_front
      (reads_seq (reads_specifiers n) (λ ss. reads_seq (declarator_any_reads src n how.Named) (λ declared. reads_if (open_brace ∷ []) (reads_function ss declared) (reads_rest ss declared))))

  starts_body : (ss : List Specifier) (declared : Declarator) → Starts (open_brace ∷ []) (Body ss declared)
  starts_body ss declared = starts_sequence (open_brace ∷ []) (IsBlock src (AnyStmt src)) (starts_block src (AnyStmt src)) _

  abbrev rest_starts : List ℕ
  rest_starts = equals ∷ comma ∷ semicolon ∷ []

  starts_further : (found : List Item) → Starts (comma ∷ semicolon ∷ []) (IsFurther src n found)
  starts_further found items w h = behind_items h.first.0 h.first.1
    where
      behind_items : (ys : List Item) → Many (Sequence (One comma) (λ _. IsItem src)) ys h.front → Opens (comma ∷ semicolon ∷ []) w
      behind_items [] k =
          let r = starts_wider (semicolon ∷ []) _ (starts_sequence (semicolon ∷ []) (One semicolon) (starts_one semicolon) (λ _. Is h.of)) (comma ∷ semicolon ∷ []) refl items h.back h.second in
          record { first = r.first; rest = r.rest; parts = h.parts ∙ (ap (λ v. v ++ h.back) k ∙ r.parts); kind = r.kind }
      behind_items (y ∷ ys) k =
          let r = starts_wider (comma ∷ []) (Sequence (One comma) (λ _. IsItem src)) (starts_comma (IsItem src)) (comma ∷ semicolon ∷ []) refl y k.0 k.3 in
          record { first = r.first; rest = (r.rest ++ k.1) ++ h.back; parts = h.parts ∙ (ap (λ v. v ++ h.back) k.2 ∙ ap (λ v. (v ++ k.1) ++ h.back) r.parts); kind = r.kind }

  starts_rest : (ss : List Specifier) (declared : Declarator) → Starts rest_starts (Rest ss declared)
  starts_rest ss declared = starts_empty rest_starts (Sequence (IsGiven src) (λ g. Is (Some g))) None _
      (starts_wider (equals ∷ []) _ (starts_given src n) rest_starts refl)
      (λ g. starts_wider (comma ∷ semicolon ∷ []) _ (starts_sequence (comma ∷ semicolon ∷ []) (IsFurther src n (item_node declared g ∷ [])) (starts_further (item_node declared g ∷ [])) _) rest_starts refl)

  again_rest : {P : Ahead} (ss : List Specifier) (declared : Declarator) → Again n (Rest ss declared) (other_items E D n ss declared) P
  unfolding other_items expr_on level_on binary_operators
  again_rest {P = P} ss declared = again_ahead {P = Anything} {Q = P} (λ rest q. tt) (again_seq (again_given src n)
      (λ g. clear_starts (comma ∷ semicolon ∷ []) (item_on src n) (starts_sequence (comma ∷ semicolon ∷ []) (IsFurther src n (item_node declared g ∷ [])) (starts_further (item_node declared g ∷ [])) _) refl)
      (λ g. again_seq {P = Anything} (again_further src n (item_node declared g ∷ [])) (λ items. clear_any) (λ items. again_is n (x.Declaration (declaration_node ss items)))))

  again_function : {P : Ahead} (ss : List Specifier) (declared : Declarator) → Again n (Body ss declared) (function_body E D n ss declared) P
  unfolding function_body
  again_function {P = P} ss declared = again_ahead {P = Anything} {Q = P} (λ rest q. tt) (again_map (function_node ss declared) again_body)

  pub again_external : {P : Ahead} → Again n (IsExternal src) (external E D n) P
  unfolding external
  again_external {P = P} = again_narrower to_front (again_ahead {P = Anything} {Q = P} (λ rest q. tt) (again_seq (again_specifiers n)
      (λ ss. clear_starts declarator_starts specifier_starts (starts_sequence declarator_starts (AnyDeclarator src how.Named) (declarator_any_starts src how.Named) _) refl)
      (λ ss. again_seq (declarator_any_again src n how.Named)
      (λ declared. clear_or (clear_starts (open_brace ∷ []) declarator_on (starts_body ss declared) refl) (clear_starts rest_starts declarator_on (starts_rest ss declared) refl))
      (λ declared. again_if (open_brace ∷ []) rest_starts (open_brace ∷ []) (starts_body ss declared) refl (starts_rest ss declared) refl (again_function ss declared) (again_rest ss declared)))))

  starts_external : Starts specifier_starts (IsExternal src)
  starts_external = starts_either specifier_starts (IsFunctionDefinition src) (Sequence (IsDeclaration src) (λ y. Is (x.Declaration y))) (starts_sequence specifier_starts IsSpecifiers starts_specifiers _) (starts_sequence specifier_starts (IsDeclaration src) (starts_declaration src) _)

  pub reads_externals : Reads n (Further (IsExternal src) []) (grown (begins specifier_starts) push (external E D n) [])
  reads_externals = reads_repeat specifier_starts push reads_external (starts_filled specifier_starts (IsExternal src) starts_external) []

  pub again_externals : Again n (Further (IsExternal src) []) (grown (begins specifier_starts) push (external E D n) []) (Off specifier_starts)
  again_externals = again_repeat specifier_starts [] specifier_starts push again_external starts_external refl refl refl refl []

-- ---- the whole of some tokens

pub unit_again : (src : Bytes) (w : List Token) (u : TheUnit) (m : ℕ) → length w ≤ suc m → Derives w src u → unit (expr_at src (suc m)) (declarator_at src (suc m)) (suc m) w ≡ Ok (u, [])
unfolding unit begins
unit_again src w u m few h =
    let read : grown (begins specifier_starts) push (external (expr_at src (suc m)) (declarator_at src (suc m)) (suc m)) [] (h.front ++ []) ≡ Ok (h.of, []) = (again_externals src m).read h.of h.front [] h.first (omega (arith, few, ap length h.parts, length-append h.front h.back)) refl in
    let word : w ≡ h.front ++ [] = h.parts ∙ ap (λ v. h.front ++ v) h.second.1 in
    ap (λ v. and_then (grown (begins specifier_starts) push (external (expr_at src (suc m)) (declarator_at src (suc m)) (suc m)) [] v) (λ xs. ended (unit_node xs))) word
    ∙ (ap (λ r. and_then r (λ xs. ended (unit_node xs))) read ∙ ap (λ v. Ok (v, [])) (sym h.second.0))

ended_ok : {A : Type 0} (a x : A) (v rest : List Token) → ended a v ≡ Ok (x, rest) → (x ≡ a) × (v ≡ []) × (rest ≡ [])
ended_ok a x [] rest e = let p : (a, []) ≡ (x, rest) = ok_same (a, []) (x, rest) e in (sym (ap (λ q. q.0) p), refl, sym (ap (λ q. q.1) p))
ended_ok a x (t ∷ v) rest e = absurd (cc)

pub unit_found : (src : Bytes) (w : List Token) (u : TheUnit) (rest : List Token) (m : ℕ) → unit (expr_at src (suc m)) (declarator_at src (suc m)) (suc m) w ≡ Ok (u, rest) → Derives w src u × (rest ≡ [])
unfolding unit
unit_found src w u rest m e =
    let p = and_then_ok (grown (begins specifier_starts) push (external (expr_at src (suc m)) (declarator_at src (suc m)) (suc m)) [] w) (λ xs. ended (unit_node xs)) (u, rest) e in
    let one = (reads_externals src m).found w p.0.0 p.0.1 p.1 in
    let end = ended_ok (unit_node p.0.0) u p.0.1 rest p.2 in
    (record { of = p.0.0; front = one.front; back = []; parts = one.parts ∙ ap (λ v. one.front ++ v) end.1; first = one.by; second = (end.0, refl) }, end.2)

-- ---- with as much depth as there are tokens

pub nothing_read : (src : Bytes) → unit_of src [] ≡ Ok (unit_node [], [])
unfolding unit_of unit grown_from
nothing_read src = refl

nothing_at_one : (src : Bytes) → unit (expr_at src 1) (declarator_at src 1) 1 [] ≡ Ok (unit_node [], [])
unfolding unit grown_from
nothing_at_one src = refl

pub unit_of_derived : (src : Bytes) (w : List Token) (u : TheUnit) → Derives w src u → unit_of src w ≡ Ok (u, [])
unfolding unit_of
unit_of_derived src [] u h = nothing_read src ∙ (sym (nothing_at_one src) ∙ unit_again src [] u 0 (omega arith) h)
unit_of_derived src (t ∷ w) u h = unit_again src (t ∷ w) u (length w) (omega arith) h

pub empty_unit : (src : Bytes) → Derives [] src (unit_node [])
empty_unit src = record { of = []; front = []; back = []; parts = refl; first = ([], refl, refl); second = (refl, refl) }

pub unit_of_found : (src : Bytes) (w : List Token) (u : TheUnit) (rest : List Token) → unit_of src w ≡ Ok (u, rest) → Derives w src u × (rest ≡ [])
unfolding unit_of
unit_of_found src [] u rest e =
    let p : (unit_node [], []) ≡ (u, rest) = ok_same (unit_node [], []) (u, rest) (sym (nothing_read src) ∙ e) in
    (let P : TheUnit → Type 0 = λ v. Derives [] src v in subst P (ap (λ q. q.0) p) (empty_unit src), sym (ap (λ q. q.1) p))
unit_of_found src (t ∷ w) u rest e = unit_found src (t ∷ w) u rest (length w) e

pub one_unit_of : (src : Bytes) (w : List Token) (a b : TheUnit) → Derives w src a → Derives w src b → a ≡ b
one_unit_of src w a b h k =
    let both : Path (Result (TheUnit × List Token) ℕ) (Ok (a, [])) (Ok (b, [])) = sym (unit_of_derived src w a h) ∙ unit_of_derived src w b k in
    ap (λ p. p.0) (ok_same (a, []) (b, []) both)
