-- The readers of statements find what is spelled: each `else` goes to the nearest `if` that can take it.
use Rattle.std.proofs.Common.{◌≡◌, ℕ, zero, suc, ◌+◌, ◌≤◌, ◌<◌, Bool, true, false, List, [], ◌∷◌, ◌++◌, length, refl, ap, sym, ◌∙◌, subst, Option, Some, None, Result, Ok, Err, inl, inr, if◌then◌else◌, length-append, arith}
use Rattle.std.proofs.lemmas.List.{append-nil}
use Rattle.c_lexer.specs.declared.token.Token.{Token}
use Rattle.c_lexer.specs.declared.token.TokenKind.TheVariants.{Keyword, Punct}
use Rattle.c_tree.specs.declared.expression.Expr.{Expr}
use Rattle.c_tree.specs.declared.expression.Declarator.{Declarator}
use Rattle.c_expr.specs.declared.start.Start.{Start}
use Rattle.c_expr.specs.declared.start.Start.TheVariants as at
use Rattle.c_expr.specs.declared.start.Naming.{Naming}
use Rattle.c_expr.specs.Codes.{open_brace, close_brace, semicolon, specifier_starts}
use Rattle.c_expr.specs.Nodes.{Bytes}
use Rattle.c_expr.specs.Spelling.{Spelling, One, Is, Sequence, ◌or◌, push}
use Rattle.c_parser.specs.Units.{AnyExpr, IsDeclaration}
use Rattle.c_expr.specs.Reading.{Reader, begins, and_then, one, pure, stop, choose, expr_at, declarator_at}
use Rattle.c_expr.proofs.Sound.{Reads, reads_is, reads_wider, reads_equal}
use Rattle.c_expr.proofs.Repeat.{Filled}
use Rattle.c_expr.proofs.Starts.{Starts, within, starts_filled, starts_one, starts_sequence, starts_wider}
use Rattle.c_expr.proofs.Short.{reads_seq, reads_after, reads_map, reads_if, reads_swap, reads_one, of}
use Rattle.c_expr.proofs.FoundAt.{reads_stop}
use Rattle.c_expr.proofs.ExprStarts.{expr_starts}
use Rattle.c_expr.proofs.Again.{Off}
use Rattle.c_tree.specs.declared.statement.Stmt.{Stmt}
use Rattle.c_tree.specs.declared.statement.ForStart.TheVariants as f
use Rattle.c_tree.specs.declared.statement.BlockItem.TheVariants as b
use Rattle.c_expr.specs.Codes.{open_paren, close_paren, break_word, continue_word, do_word, else_word, for_word, if_word, return_word, while_word}
use Rattle.c_parser.specs.StatementNodes.{block_node, block_stmt, empty_stmt, expr_stmt, if_stmt, while_stmt, do_stmt, for_head, for_stmt, continue_stmt, break_stmt, return_stmt}
use Rattle.c_expr.specs.Spelling.{In_parens, Never}
use Rattle.c_parser.specs.Units.{IsBlockItem, IsBlock, IsBlockStmt, IsExprStmt, IsElse, IsIf, IsWhile, IsDo, IsOptional, IsForStart, IsFor, IsContinue, IsBreak, IsReturn, Closed, IsStmtLine, StmtAt}
use Rattle.c_expr.specs.Reading.{until, ◌>>=◌, ◌>>◌, ◌<$>◌}
use Rattle.c_parser.specs.ReadingUnits.{optional, condition, for_start, block_item, block_items, block, expr_statement, if_statement, while_statement, do_statement, for_statement, return_statement, break_statement, continue_statement, stmt_line, statement_at}
use Rattle.c_expr.proofs.Alike.{Heads, and_then_ok, ok_same, false_is_not_true}
use Rattle.c_expr.proofs.Repeat.{reads_grown}
use Rattle.c_parser.proofs.Declarations.{reads_fewer, any_starts, any_reads, reads_declaration, starts_declaration}

-- ---- readers that also tell whether an `else` could belong to what they read

-- without what is told
abbrev pub untold : Result ((Stmt × Bool) × List Token) ℕ → Result (Stmt × List Token) ℕ
untold r = and_then r (λ p. pure p.0)

abbrev pub closed : Reader Stmt → Reader (Stmt × Bool)
closed r = (λ s. (s, false)) <$> r

module _ (expr : Start → Reader Expr) (declarator : Naming → Reader Declarator) (depth : ℕ) where
  module _ (stmt : Reader (Stmt × Bool)) where
    abbrev pub plain : Reader Stmt
    plain = λ w. untold (stmt w)

    abbrev pub other_branch : Stmt × Bool → Option Stmt × Bool
    other_branch p = (Some p.0, p.1)

    abbrev pub found_else : Reader (Option Stmt × Bool)
    found_else = one else_word >> (other_branch <$> stmt)

    -- an `else` is looked for where the first branch leaves it
    abbrev pub told_else : Bool → Reader (Option Stmt × Bool)
    told_else true = pure (None, true)
    told_else false = choose (begins (else_word ∷ [])) found_else (pure (None, true))

    abbrev pub told_if : Reader (Stmt × Bool)
    told_if = do
      t ← one if_word
      x ← condition expr declarator depth
      first ← stmt
      second ← told_else first.1
      pure (if_stmt t.line x first.0 second.0, second.1)

    abbrev pub told_while : Reader (Stmt × Bool)
    told_while = do
      t ← one while_word
      x ← condition expr declarator depth
      body ← stmt
      pure (while_stmt t.line x body.0, body.1)

    abbrev pub told_for : Reader (Stmt × Bool)
    told_for = do
      t ← one for_word
      one open_paren
      start ← for_start expr declarator depth
      x ← optional expr declarator depth semicolon
      one semicolon
      step ← optional expr declarator depth close_paren
      one close_paren
      body ← stmt
      pure (for_stmt t.line (for_head start x step) body.0, body.1)

    abbrev pub told_line : Reader (Stmt × Bool)
    told_line =
        choose (begins (open_brace ∷ [])) (closed (block_stmt <$> block expr declarator depth plain))
        (choose (begins (semicolon ∷ [])) (closed ((λ t. empty_stmt t.line) <$> one semicolon))
        (choose (begins (if_word ∷ [])) told_if
        (choose (begins (while_word ∷ [])) told_while
        (choose (begins (do_word ∷ [])) (closed (do_statement expr declarator depth plain))
        (choose (begins (for_word ∷ [])) told_for
        (choose (begins (return_word ∷ [])) (closed (return_statement expr declarator depth plain))
        (choose (begins (break_word ∷ [])) (closed (break_statement expr declarator depth plain))
        (choose (begins (continue_word ∷ [])) (closed (continue_statement expr declarator depth plain)) (closed (expr_statement expr declarator depth plain))))))))))

  unfoldable pub told_at : ℕ → Reader (Stmt × Bool)
  told_at zero = stop
  told_at (suc left) = told_line (told_at left)

-- ---- they find what is spelled

heads_until : (k : ℕ) → Heads (until k)
unfolding until
heads_until k [] [] a = refl
heads_until k (t ∷ r) (u ∷ s) a = ap (λ v. until k (v ∷ [])) a
heads_until k [] (u ∷ s) a = absurd a
heads_until k (t ∷ r) [] a = absurd a

ends_until : (k : ℕ) → until k [] ≡ false
unfolding until
ends_until k = refl

-- without what is told
plain_of : (S : Spelling (Stmt × Bool)) (x : Stmt) (w : List Token) → Sequence S (λ p. Is p.0) x w → (o : Bool) × S (x, o) w
plain_of S x w k =
    let P : Stmt → Type 0 = λ y. S (y, k.of.1) w in
    let Q : List Token → Type 0 = λ v. S (k.of.0, k.of.1) v in
    (k.of.1, subst P (sym k.second.0) (subst Q (sym (k.parts ∙ (ap (λ v. k.front ++ v) k.second.1 ∙ append-nil k.front))) k.first))

reads_plain_at : (src : Bytes) (d : ℕ) (S : Spelling (Stmt × Bool)) (stmt : Reader (Stmt × Bool)) → Reads d S stmt → Reads d (λ x w. (o : Bool) × S (x, o) w) (λ w. untold (stmt w))
reads_plain_at src d S stmt h = reads_wider d (Sequence S (λ p. Is p.0)) (λ x w. (o : Bool) × S (x, o) w) (λ w. untold (stmt w)) (plain_of S) (reads_map (λ p. p.0) h)

module _ (src : Bytes) (n d : ℕ) (le : suc d ≤ n) (S : Spelling (Stmt × Bool)) (stmt : Reader (Stmt × Bool)) (h : Reads d S stmt) (filled : Filled S) where
  abbrev E : Start → Reader Expr
  E = expr_at src n

  abbrev D : Naming → Reader Declarator
  D = declarator_at src n

  -- without what is told
  abbrev Plain : Spelling Stmt
  Plain x w = (o : Bool) × S (x, o) w

  reads_plain : Reads d Plain (plain E D n stmt)
  reads_plain = reads_plain_at src d S stmt h

  e : (start : Start) → Reads d (AnyExpr src start) (E start)
  e start = reads_fewer (omega arith) (any_reads src n start)

  reads_item_of : Reads d (IsBlockItem src S) (block_item E D n (plain E D n stmt))
  unfolding block_item
  reads_item_of = reads_if specifier_starts (reads_map b.Declaration (reads_fewer (omega arith) (reads_declaration src n)))
      (reads_wider d (Sequence Plain (λ x. Is (b.Statement x))) (Sequence S (λ p. Is (b.Statement p.0))) _ (λ x w k. record { of = (k.of, k.first.0); front = k.front; back = k.back; parts = k.parts; first = k.first.1; second = k.second }) (reads_map b.Statement reads_plain))

  filled_item : Filled (IsBlockItem src S)
  filled_item x w (inl k) = starts_filled specifier_starts _ (starts_sequence specifier_starts (IsDeclaration src) (starts_declaration src) _) x w k
  filled_item x w (inr k) =
      let full : 0 < length k.front = filled k.of k.front k.first in
      let sum : length w ≡ length k.front + length k.back = ap length k.parts ∙ length-append k.front k.back in omega arith

  pub reads_block : Reads (suc d) (IsBlock src S) (block E D n (plain E D n stmt))
  unfolding block block_items
  reads_block = reads_after (reads_one (suc d) open_brace (Punct 4) refl) (λ t.
      reads_seq (reads_grown d (until close_brace) push (IsBlockItem src S) (block_item E D n (plain E D n stmt)) reads_item_of (heads_until close_brace) (ends_until close_brace) filled_item []) (λ items.
      reads_seq (reads_one d close_brace (Punct 5) refl) (λ u. reads_is d (block_node t.line items u.line))))

  reads_condition : Reads d (In_parens (AnyExpr src at.Expression)) (condition E D n)
  unfolding condition
  reads_condition = reads_seq (reads_one d open_paren (Punct 2) refl) (λ _. reads_seq (e at.Expression) (λ x. reads_seq (reads_one d close_paren (Punct 3) refl) (λ _. reads_is d x)))

  reads_optional : (k : ℕ) → Reads d (IsOptional src S) (optional E D n k)
  reads_optional k = reads_swap (reads_if (k ∷ []) (reads_is d None) (reads_map Some (e at.Expression)))

  reads_for_start : Reads d (IsForStart src S) (for_start E D n)
  unfolding for_start
  reads_for_start = reads_if specifier_starts (reads_map f.Declaration (reads_fewer (omega arith) (reads_declaration src n)))
      (reads_seq (reads_optional semicolon) (λ x. reads_seq (reads_one d semicolon (Punct 32) refl) (λ _. reads_is d (f.Expr x))))

  reads_else : (o : Bool) → Reads d (IsElse src S o or Is (None, true)) (told_else E D n stmt o)
  reads_else true = reads_wider d (Is (None, true)) (Never or Is (None, true)) (pure (None, true)) (λ x w k. inr k) (reads_is d (None, true))
  reads_else false = reads_if (else_word ∷ []) (reads_seq (reads_one d else_word (Keyword 9) refl) (λ _. reads_map (other_branch E D n stmt) h)) (reads_is d (None, true))

  reads_told_if : Reads (suc d) (IsIf src S) (told_if E D n stmt)
  reads_told_if = reads_after (reads_one (suc d) if_word (Keyword 15) refl) (λ t. reads_seq reads_condition (λ x. reads_seq h (λ first. reads_seq (reads_else first.1) (λ second. reads_is d _))))

  reads_told_while : Reads (suc d) (IsWhile src S) (told_while E D n stmt)
  reads_told_while = reads_after (reads_one (suc d) while_word (Keyword 33) refl) (λ t. reads_seq reads_condition (λ x. reads_seq h (λ body. reads_is d _)))

  reads_told_for : Reads (suc d) (IsFor src S) (told_for E D n stmt)
  reads_told_for = reads_after (reads_one (suc d) for_word (Keyword 13) refl) (λ t. reads_seq (reads_one d open_paren (Punct 2) refl) (λ _. reads_seq reads_for_start (λ start.
      reads_seq (reads_optional semicolon) (λ x. reads_seq (reads_one d semicolon (Punct 32) refl) (λ _. reads_seq (reads_optional close_paren) (λ step. reads_seq (reads_one d close_paren (Punct 3) refl) (λ _.
      reads_seq h (λ body. reads_is d _))))))))

  abbrev Behind : Token → Stmt → Spelling Stmt
  Behind t body = Sequence (One while_word) (λ _. Sequence (In_parens (AnyExpr src at.Expression)) (λ x. Sequence (One semicolon) (λ _. Is (do_stmt t.line body x))))

  do_of : (t : Token) (x : Stmt) (w : List Token) → Sequence Plain (Behind t) x w → Sequence S (λ p. Behind t p.0) x w
  do_of t x w k = record { of = (k.of, k.first.0); front = k.front; back = k.back; parts = k.parts; first = k.first.1; second = k.second }

  reads_do : Reads (suc d) (IsDo src S) (do_statement E D n (plain E D n stmt))
  unfolding do_statement
  reads_do = reads_after (reads_one (suc d) do_word (Keyword 7) refl) (λ t. reads_wider d (Sequence Plain (Behind t)) (Sequence S (λ p. Behind t p.0)) _ (do_of t)
      (reads_seq reads_plain (λ body. reads_seq (reads_one d while_word (Keyword 33) refl) (λ _. reads_seq reads_condition (λ x. reads_seq (reads_one d semicolon (Punct 32) refl) (λ _. reads_is d (do_stmt t.line body x)))))))

  reads_return : Reads (suc d) (IsReturn src S) (return_statement E D n (plain E D n stmt))
  unfolding return_statement
  reads_return = reads_after (reads_one (suc d) return_word (Keyword 21) refl) (λ t. reads_seq (reads_optional semicolon) (λ x. reads_seq (reads_one d semicolon (Punct 32) refl) (λ _. reads_is d (return_stmt t.line x))))

  reads_break : Reads (suc d) (IsBreak src S) (break_statement E D n (plain E D n stmt))
  unfolding break_statement
  reads_break = reads_after (reads_one (suc d) break_word (Keyword 1) refl) (λ t. reads_seq (reads_one d semicolon (Punct 32) refl) (λ _. reads_is d (break_stmt t.line)))

  reads_continue : Reads (suc d) (IsContinue src S) (continue_statement E D n (plain E D n stmt))
  unfolding continue_statement
  reads_continue = reads_after (reads_one (suc d) continue_word (Keyword 5) refl) (λ t. reads_seq (reads_one d semicolon (Punct 32) refl) (λ _. reads_is d (continue_stmt t.line)))

  reads_expr_stmt : Reads (suc d) (IsExprStmt src S) (expr_statement E D n (plain E D n stmt))
  unfolding expr_statement
  reads_expr_stmt = reads_seq (reads_fewer le (any_reads src n at.Expression)) (λ x. reads_seq (reads_one (suc d) semicolon (Punct 32) refl) (λ _. reads_is (suc d) (expr_stmt x)))

  reads_closed : {R : Reader Stmt} {T : Spelling Stmt} → Reads (suc d) T R → Reads (suc d) (Closed src S T) (closed R)
  reads_closed h = reads_map (λ s. (s, false)) h

  pub reads_told_line : Reads (suc d) (IsStmtLine src S) (told_line E D n stmt)
  reads_told_line = reads_if (open_brace ∷ []) (reads_closed (reads_map block_stmt reads_block))
      (reads_if (semicolon ∷ []) (reads_closed (reads_map (λ t. empty_stmt t.line) (reads_one (suc d) semicolon (Punct 32) refl)))
      (reads_if (if_word ∷ []) reads_told_if (reads_if (while_word ∷ []) reads_told_while (reads_if (do_word ∷ []) (reads_closed reads_do) (reads_if (for_word ∷ []) reads_told_for
      (reads_if (return_word ∷ []) (reads_closed reads_return) (reads_if (break_word ∷ []) (reads_closed reads_break) (reads_if (continue_word ∷ []) (reads_closed reads_continue) (reads_closed reads_expr_stmt)))))))))

-- ---- what they begin with

abbrev pub stmt_starts : List ℕ
stmt_starts = open_brace ∷ semicolon ∷ if_word ∷ while_word ∷ do_word ∷ for_word ∷ return_word ∷ break_word ∷ continue_word ∷ expr_starts

module _ (src : Bytes) (S : Spelling (Stmt × Bool)) where
  starts_closed : (k : ℕ) (T : Token → Spelling Stmt) → within (k ∷ []) stmt_starts ≡ true → Starts stmt_starts (Closed src S (Sequence (One k) T))
  starts_closed k T e = starts_sequence stmt_starts (Sequence (One k) T) (starts_wider (k ∷ []) (Sequence (One k) T) (starts_sequence (k ∷ []) (One k) (starts_one k) T) stmt_starts e) _

  starts_told : (k : ℕ) (T : Token → Spelling (Stmt × Bool)) → within (k ∷ []) stmt_starts ≡ true → Starts stmt_starts (Sequence (One k) T)
  starts_told k T e = starts_wider (k ∷ []) (Sequence (One k) T) (starts_sequence (k ∷ []) (One k) (starts_one k) T) stmt_starts e

  pub starts_block : Starts (open_brace ∷ []) (IsBlock src S)
  starts_block = starts_sequence (open_brace ∷ []) (One open_brace) (starts_one open_brace) _

  pub starts_stmt_line : Starts stmt_starts (IsStmtLine src S)
  starts_stmt_line p w (inl h) = starts_sequence stmt_starts (IsBlockStmt src S) (starts_wider (open_brace ∷ []) (IsBlockStmt src S) (starts_sequence (open_brace ∷ []) (IsBlock src S) starts_block _) stmt_starts refl) _ p w h
  starts_stmt_line p w (inr (inl h)) = starts_closed semicolon _ refl p w h
  starts_stmt_line p w (inr (inr (inl h))) = starts_told if_word _ refl p w h
  starts_stmt_line p w (inr (inr (inr (inl h)))) = starts_told while_word _ refl p w h
  starts_stmt_line p w (inr (inr (inr (inr (inl h))))) = starts_closed do_word _ refl p w h
  starts_stmt_line p w (inr (inr (inr (inr (inr (inl h)))))) = starts_told for_word _ refl p w h
  starts_stmt_line p w (inr (inr (inr (inr (inr (inr (inl h))))))) = starts_closed return_word _ refl p w h
  starts_stmt_line p w (inr (inr (inr (inr (inr (inr (inr (inl h)))))))) = starts_closed break_word _ refl p w h
  starts_stmt_line p w (inr (inr (inr (inr (inr (inr (inr (inr (inl h))))))))) = starts_closed continue_word _ refl p w h
  starts_stmt_line p w (inr (inr (inr (inr (inr (inr (inr (inr (inr h))))))))) =
      starts_sequence stmt_starts (IsExprStmt src S) (starts_wider expr_starts (IsExprStmt src S) (starts_sequence expr_starts (AnyExpr src at.Expression) (any_starts src at.Expression) _) stmt_starts refl) _ p w h

pub starts_stmt_at : (src : Bytes) (depth : ℕ) → Starts stmt_starts (StmtAt src depth)
unfolding StmtAt
starts_stmt_at src zero p w h = absurd h
starts_stmt_at src (suc depth) p w h = starts_stmt_line src (StmtAt src depth) p w h

-- ---- at each depth

abbrev a_semicolon : List Token
a_semicolon = of (Punct 32) ∷ []

sample_stmt : (src : Bytes) (S : Spelling (Stmt × Bool)) → IsStmtLine src S (empty_stmt 0, false) a_semicolon
sample_stmt src S = inr (inl (record {
  of = empty_stmt 0;
  front = a_semicolon;
  back = [];
  parts = refl;
  first = record { of = of (Punct 32); front = a_semicolon; back = []; parts = refl; first = (of (Punct 32), refl, refl); second = (refl, refl) };
  second = (refl, refl);
}))

pub reads_told_at : (src : Bytes) (n d : ℕ) → d ≤ n → Reads d (StmtAt src (suc d)) (told_at (expr_at src n) (declarator_at src n) n d)
unfolding StmtAt told_at
reads_told_at src n zero le = reads_stop (StmtAt src 1) (empty_stmt 0, false) a_semicolon (sample_stmt src (StmtAt src 0))
reads_told_at src n (suc d) le = reads_told_line src n d le (StmtAt src (suc d)) (told_at (expr_at src n) (declarator_at src n) n d) (reads_told_at src n d (omega arith)) (starts_filled stmt_starts (StmtAt src (suc d)) (starts_stmt_at src (suc d)))

-- ---- they tell what they should

abbrev pub Quiet : Bool → List Token → Type 0
Quiet o rest = o ≡ true → Off (else_word ∷ []) rest

abbrev pub Tells : Reader (Stmt × Bool) → Type 0
Tells R = (w : List Token) (p : Stmt × Bool) (rest : List Token) → R w ≡ Ok (p, rest) → Quiet p.1 rest

tells_seq : {A : Type 0} (R : Reader A) (f : A → Reader (Stmt × Bool)) → ((a : A) → Tells (f a)) → Tells (λ w. and_then (R w) f)
tells_seq R f h w p rest e = let q = and_then_ok (R w) f (p, rest) e in h q.0.0 q.0.1 p rest q.2

tells_pure : (s : Stmt) (o : Bool) (w : List Token) (p : Stmt × Bool) (rest : List Token) → Quiet o w → Path (Result ((Stmt × Bool) × List Token) ℕ) (Ok ((s, o), w)) (Ok (p, rest)) → Quiet p.1 rest
tells_pure s o w p rest q e =
    let same : ((s, o), w) ≡ (p, rest) = ok_same ((s, o), w) (p, rest) e in
    let P : ((Stmt × Bool) × List Token) → Type 0 = λ v. Quiet v.0.1 v.1 in
    subst P same q

never_quiet : (rest : List Token) → Quiet false rest
never_quiet rest e = absurd (false_is_not_true e)

tells_closed : (R : Reader Stmt) → Tells (closed R)
tells_closed R = tells_seq R (λ s. pure (s, false)) (λ s w p rest e. tells_pure s false w p rest (never_quiet w) e)

tells_choose : (test : List Token → Bool) (R Q : Reader (Stmt × Bool)) → Tells R → Tells Q → Tells (choose test R Q)
tells_choose test R Q r q w p rest e = chosen_tells (test w) e
  where
    chosen_tells : (b : Bool) → (if b then R else Q) w ≡ Ok (p, rest) → Quiet p.1 rest
    chosen_tells true d = r w p rest d
    chosen_tells false d = q w p rest d

module _ (expr : Start → Reader Expr) (declarator : Naming → Reader Declarator) (depth : ℕ) (stmt : Reader (Stmt × Bool)) (h : Tells stmt) where
  tells_last : (g : (Stmt × Bool) → Stmt) → Tells (λ w. and_then (stmt w) (λ q. pure (g q, q.1)))
  tells_last g w p rest e =
      let q = and_then_ok (stmt w) (λ r. pure (g r, r.1)) (p, rest) e in
      tells_pure (g q.0.0) q.0.0.1 q.0.1 p rest (h w q.0.0 q.0.1 q.1) q.2

  tells_while : Tells (told_while expr declarator depth stmt)
  tells_while = tells_seq (one while_word) _ (λ t. tells_seq (condition expr declarator depth) _ (λ x. tells_last (λ q. while_stmt t.line x q.0)))

  tells_for : Tells (told_for expr declarator depth stmt)
  tells_for = tells_seq (one for_word) _ (λ t. tells_seq (one open_paren) _ (λ _. tells_seq (for_start expr declarator depth) _ (λ start. tells_seq (optional expr declarator depth semicolon) _ (λ x.
      tells_seq (one semicolon) _ (λ _. tells_seq (optional expr declarator depth close_paren) _ (λ step. tells_seq (one close_paren) _ (λ _. tells_last (λ q. for_stmt t.line (for_head start x step) q.0))))))))

  abbrev Branch : Type 0
  Branch = (Option Stmt × Bool) × List Token

  abbrev QuietBranch : Branch → Type 0
  QuietBranch v = Quiet v.0.1 v.1

  tells_found : (w : List Token) (a : Branch) → found_else expr declarator depth stmt w ≡ Ok a → QuietBranch a
  tells_found w a e =
      let q = and_then_ok (one else_word w) (λ _ v. and_then (stmt v) (λ r. pure (other_branch expr declarator depth stmt r))) a e in
      let r = and_then_ok (stmt q.0.1) (λ r. pure (other_branch expr declarator depth stmt r)) a q.2 in
      let value : Branch = (other_branch expr declarator depth stmt r.0.0, r.0.1) in
      let same : value ≡ a = ok_same value a r.2 in
      subst QuietBranch same (h q.0.1 r.0.0 r.0.1 r.1)

  quiet_else : (b : Bool) (w : List Token) → begins (else_word ∷ []) w ≡ b → (a : Branch) → (if b then found_else expr declarator depth stmt else pure (None, true)) w ≡ Ok a → QuietBranch a
  quiet_else true w d a e = tells_found w a e
  quiet_else false w d a e =
      let value : Branch = ((None, true), w) in
      let same : value ≡ a = ok_same value a e in
      subst QuietBranch same (λ _. d)

  quiet_branch : (o : Bool) (w : List Token) → Quiet o w → (a : Branch) → told_else expr declarator depth stmt o w ≡ Ok a → QuietBranch a
  quiet_branch true w q a e =
      let value : Branch = ((None, true), w) in
      let same : value ≡ a = ok_same value a e in
      subst QuietBranch same q
  quiet_branch false w q a e = quiet_else (begins (else_word ∷ []) w) w refl a e

  tells_else : (t : Token) (x : Expr) (first : Stmt × Bool) (w : List Token) (p : Stmt × Bool) (rest : List Token) → Quiet first.1 w
      → and_then (told_else expr declarator depth stmt first.1 w) (λ second. pure (if_stmt t.line x first.0 second.0, second.1)) ≡ Ok (p, rest) → Quiet p.1 rest
  tells_else t x first w p rest q k =
      let a = and_then_ok (told_else expr declarator depth stmt first.1 w) (λ second. pure (if_stmt t.line x first.0 second.0, second.1)) (p, rest) k in
      tells_pure (if_stmt t.line x first.0 a.0.0.0) a.0.0.1 a.0.1 p rest (quiet_branch first.1 w q a.0 a.1) a.2

  tells_if : Tells (told_if expr declarator depth stmt)
  tells_if = tells_seq (one if_word) _ (λ t. tells_seq (condition expr declarator depth) _ (λ x w p rest e.
      (let q = and_then_ok (stmt w) (λ first v. and_then (told_else expr declarator depth stmt first.1 v) (λ second. pure (if_stmt t.line x first.0 second.0, second.1))) (p, rest) e in
      tells_else t x q.0.0 q.0.1 p rest (h w q.0.0 q.0.1 q.1) q.2)))

  tells_line : Tells (told_line expr declarator depth stmt)
  tells_line = tells_choose (begins (open_brace ∷ [])) _ _ (tells_closed _) (tells_choose (begins (semicolon ∷ [])) _ _ (tells_closed _) (tells_choose (begins (if_word ∷ [])) _ _ tells_if
      (tells_choose (begins (while_word ∷ [])) _ _ tells_while (tells_choose (begins (do_word ∷ [])) _ _ (tells_closed _) (tells_choose (begins (for_word ∷ [])) _ _ tells_for
      (tells_choose (begins (return_word ∷ [])) _ _ (tells_closed _) (tells_choose (begins (break_word ∷ [])) _ _ (tells_closed _) (tells_choose (begins (continue_word ∷ [])) _ _ (tells_closed _) (tells_closed _)))))))))

pub tells_at : (expr : Start → Reader Expr) (declarator : Naming → Reader Declarator) (depth left : ℕ) → Tells (told_at expr declarator depth left)
unfolding told_at
tells_at expr declarator depth zero w p rest e = absurd (cc)
tells_at expr declarator depth (suc left) w p rest e = tells_line expr declarator depth (told_at expr declarator depth left) (tells_at expr declarator depth left) w p rest e

-- ---- without what is told they are the readers of statements

by_tokens : {A : Type 0} (f g : List Token → A) → ((w : List Token) → f w ≡ g w) → f ≡ g
by_tokens f g h = λ i w. h w i

same_step : {A : Type 0} (r : Result (A × List Token) ℕ) (f : A → Reader Stmt) (g : A → Reader (Stmt × Bool)) → ((a : A) (v : List Token) → f a v ≡ untold (g a v)) → and_then r f ≡ untold (and_then r g)
same_step (Ok p) f g h = h p.0 p.1
same_step (Err k) f g h = refl

same_stmt : (q : Result ((Stmt × Bool) × List Token) ℕ) (f : Stmt → Reader Stmt) (g : (Stmt × Bool) → Reader (Stmt × Bool)) → ((p : Stmt × Bool) (v : List Token) → q ≡ Ok (p, v) → f p.0 v ≡ untold (g p v)) → and_then (untold q) f ≡ untold (and_then q g)
same_stmt (Ok p) f g h = h p.0 p.1 refl
same_stmt (Err k) f g h = refl

same_choose : (test : List Token → Bool) (R Q : Reader Stmt) (R' Q' : Reader (Stmt × Bool)) (w : List Token) → R w ≡ untold (R' w) → Q w ≡ untold (Q' w) → choose test R Q w ≡ untold (choose test R' Q' w)
same_choose test R Q R' Q' w r q = by_test (test w)
  where
    by_test : (b : Bool) → (if b then R else Q) w ≡ untold ((if b then R' else Q') w)
    by_test true = r
    by_test false = q

same_closed : (R : Reader Stmt) (w : List Token) → R w ≡ untold (closed R w)
same_closed R w = by_result (R w)
  where
    by_result : (r : Result (Stmt × List Token) ℕ) → r ≡ untold (and_then r (λ s. pure (s, false)))
    by_result (Ok p) = refl
    by_result (Err k) = refl

module _ (expr : Start → Reader Expr) (declarator : Naming → Reader Declarator) (depth : ℕ) (stmt : Reader (Stmt × Bool)) (h : Tells stmt) where
  abbrev bare_stmt : Reader Stmt
  bare_stmt = plain expr declarator depth stmt

  same_while : (w : List Token) → while_statement expr declarator depth bare_stmt w ≡ untold (told_while expr declarator depth stmt w)
  unfolding while_statement
  same_while w = same_step (one while_word w) _ _ (λ t v. same_step (condition expr declarator depth v) _ _ (λ x u. same_stmt (stmt u) _ _ (λ p r e. refl)))

  same_for : (w : List Token) → for_statement expr declarator depth bare_stmt w ≡ untold (told_for expr declarator depth stmt w)
  unfolding for_statement
  same_for w = same_step (one for_word w) _ _ (λ t w1. same_step (one open_paren w1) _ _ (λ _ w2. same_step (for_start expr declarator depth w2) _ _ (λ start w3.
      same_step (optional expr declarator depth semicolon w3) _ _ (λ x w4. same_step (one semicolon w4) _ _ (λ _ w5. same_step (optional expr declarator depth close_paren w5) _ _ (λ step w6.
      same_step (one close_paren w6) _ _ (λ _ w7. same_stmt (stmt w7) _ _ (λ p r e. refl))))))))

  -- the branch behind `else`
  abbrev plain_else : Reader (Option Stmt)
  plain_else = one else_word >> (Some <$> bare_stmt)

  same_found : (t : Token) (x : Expr) (first : Stmt) (a : Result (Token × List Token) ℕ)
      → and_then (and_then a (λ _ v. and_then (bare_stmt v) (λ s. pure (Some s)))) (λ second. pure (if_stmt t.line x first second))
      ≡ untold (and_then (and_then a (λ _ v. and_then (stmt v) (λ r. pure (other_branch expr declarator depth stmt r)))) (λ second. pure (if_stmt t.line x first second.0, second.1)))
  same_found t x first (Err k) = refl
  same_found t x first (Ok p) = by_stmt (stmt p.1)
    where
      by_stmt : (q : Result ((Stmt × Bool) × List Token) ℕ)
          → and_then (and_then (untold q) (λ s. pure (Some s))) (λ second. pure (if_stmt t.line x first second))
          ≡ untold (and_then (and_then q (λ r. pure (other_branch expr declarator depth stmt r))) (λ second. pure (if_stmt t.line x first second.0, second.1)))
      by_stmt (Ok r) = refl
      by_stmt (Err k) = refl

  same_test : (t : Token) (x : Expr) (first : Stmt) (v : List Token) (b : Bool)
      → and_then ((if b then plain_else else pure None) v) (λ second. pure (if_stmt t.line x first second))
      ≡ untold (and_then ((if b then found_else expr declarator depth stmt else pure (None, true)) v) (λ second. pure (if_stmt t.line x first second.0, second.1)))
  same_test t x first v true = same_found t x first (one else_word v)
  same_test t x first v false = refl

  same_else : (t : Token) (x : Expr) (first : Stmt) (o : Bool) (v : List Token) → Quiet o v
      → and_then (choose (begins (else_word ∷ [])) plain_else (pure None) v) (λ second. pure (if_stmt t.line x first second))
      ≡ untold (and_then (told_else expr declarator depth stmt o v) (λ second. pure (if_stmt t.line x first second.0, second.1)))
  same_else t x first true v q = ap (λ b. and_then ((if b then plain_else else pure None) v) (λ second. pure (if_stmt t.line x first second))) (q refl)
  same_else t x first false v q = same_test t x first v (begins (else_word ∷ []) v)

  same_if : (w : List Token) → if_statement expr declarator depth bare_stmt w ≡ untold (told_if expr declarator depth stmt w)
  unfolding if_statement
  same_if w = same_step (one if_word w) _ _ (λ t v. same_step (condition expr declarator depth v) _ _ (λ x u. same_stmt (stmt u) _ _ (λ p r e. same_else t x p.0 p.1 r (h u p r e))))

  same_line : (w : List Token) → stmt_line expr declarator depth bare_stmt w ≡ untold (told_line expr declarator depth stmt w)
  unfolding stmt_line
  same_line w =
      same_choose (begins (open_brace ∷ [])) _ _ _ _ w (same_closed (block_stmt <$> block expr declarator depth bare_stmt) w)
      (same_choose (begins (semicolon ∷ [])) _ _ _ _ w (same_closed ((λ t. empty_stmt t.line) <$> one semicolon) w)
      (same_choose (begins (if_word ∷ [])) _ _ _ _ w (same_if w)
      (same_choose (begins (while_word ∷ [])) _ _ _ _ w (same_while w)
      (same_choose (begins (do_word ∷ [])) _ _ _ _ w (same_closed (do_statement expr declarator depth bare_stmt) w)
      (same_choose (begins (for_word ∷ [])) _ _ _ _ w (same_for w)
      (same_choose (begins (return_word ∷ [])) _ _ _ _ w (same_closed (return_statement expr declarator depth bare_stmt) w)
      (same_choose (begins (break_word ∷ [])) _ _ _ _ w (same_closed (break_statement expr declarator depth bare_stmt) w)
      (same_choose (begins (continue_word ∷ [])) _ _ _ _ w (same_closed (continue_statement expr declarator depth bare_stmt) w) (same_closed (expr_statement expr declarator depth bare_stmt) w)))))))))

pub same_at : (expr : Start → Reader Expr) (declarator : Naming → Reader Declarator) (depth left : ℕ) → statement_at expr declarator depth left ≡ (λ w. untold (told_at expr declarator depth left w))
unfolding statement_at told_at
same_at expr declarator depth zero = refl
same_at expr declarator depth (suc left) =
    ap (stmt_line expr declarator depth) (same_at expr declarator depth left)
    ∙ by_tokens _ _ (λ w. same_line expr declarator depth (told_at expr declarator depth left) (tells_at expr declarator depth left) w)

-- a statement, whatever is told of it
abbrev pub StmtOf : Bytes → ℕ → Spelling Stmt
StmtOf src depth x w = (o : Bool) × StmtAt src depth (x, o) w

pub reads_statement_at : (src : Bytes) (n d : ℕ) → d ≤ n → Reads d (StmtOf src (suc d)) (statement_at (expr_at src n) (declarator_at src n) n d)
reads_statement_at src n d le = reads_equal d (StmtOf src (suc d)) (λ w. untold (told_at (expr_at src n) (declarator_at src n) n d w)) (statement_at (expr_at src n) (declarator_at src n) n d)
    (λ w. ap (λ r. r w) (same_at (expr_at src n) (declarator_at src n) n d))
    (reads_plain_at src d (StmtAt src (suc d)) (told_at (expr_at src n) (declarator_at src n) n d) (reads_told_at src n d le))
