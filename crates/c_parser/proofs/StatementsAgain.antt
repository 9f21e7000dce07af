-- The readers of statements read what is spelled, where no `else` follows that would belong to it.
use Rattle.std.proofs.Common.{◌≡◌, ℕ, zero, suc, ◌≤◌, Bool, true, false, List, [], ◌∷◌, ◌++◌, length, refl, ap, sym, ◌∙◌, Option, Some, None, Ok, inl, inr, not, ◌||◌, ◌==◌, arith}
use Rattle.c_lexer.specs.declared.token.Token.{Token}
use Rattle.c_tree.specs.declared.expression.Expr.{Expr}
use Rattle.c_tree.specs.declared.expression.Declarator.{Declarator}
use Rattle.c_expr.specs.declared.start.Start.{Start}
use Rattle.c_expr.specs.declared.start.Start.TheVariants as at
use Rattle.c_expr.specs.declared.start.Naming.{Naming}
use Rattle.c_expr.specs.Codes.{code, of_kind, open_brace, close_brace, semicolon, specifier_starts, binary_operators}
use Rattle.c_expr.specs.Nodes.{Bytes}
use Rattle.c_expr.specs.Spelling.{Spelling, One, Is, Sequence, Further, ◌or◌, push}
use Rattle.c_parser.specs.Units.{AnyExpr, IsDeclaration}
use Rattle.c_expr.specs.Reading.{Reader, begins, and_then, one, pure, choose, expr_at, declarator_at}
use Rattle.c_expr.proofs.Repeat.{Filled}
use Rattle.c_expr.proofs.Starts.{Starts, apart, starts_filled, starts_one, starts_sequence, starts_either, starts_wider, begins_with, begins_apart, starts_empty, apart_one, within_left, within_right, within_self}
use Rattle.c_expr.proofs.ExprStarts.{expr_starts}
use Rattle.c_expr.proofs.Again.{Ahead, Off, On, Anything, Again, Clear, again_seq, again_is, again_token, again_after, again_behind, again_map, again_choose, again_if, clear_is, clear_sequence, again_narrower, again_ahead, again_fewer}
use Rattle.c_expr.proofs.ExprAgain.{expr_on, level_on, clear_any, clear_one, off_of}
use Rattle.c_expr.proofs.AgainAt.{nothing}
use Rattle.c_tree.specs.declared.statement.Stmt.{Stmt}
use Rattle.c_tree.specs.declared.statement.ForStart.TheVariants as f
use Rattle.c_tree.specs.declared.statement.Block.{Block}
use Rattle.c_tree.specs.declared.statement.BlockItem.{BlockItem}
use Rattle.c_tree.specs.declared.statement.BlockItem.TheVariants as b
use Rattle.c_expr.specs.Codes.{open_paren, close_paren, break_word, continue_word, do_word, else_word, for_word, if_word, return_word, while_word}
use Rattle.c_parser.specs.StatementNodes.{block_node, block_stmt, empty_stmt, expr_stmt, if_stmt, while_stmt, do_stmt, for_head, for_stmt, continue_stmt, break_stmt, return_stmt}
use Rattle.c_expr.specs.Spelling.{In_parens, Never, Many}
use Rattle.c_parser.specs.Units.{IsBlockItem, IsBlock, IsBlockStmt, IsExprStmt, IsEmptyStmt, IsElse, IsWhile, IsDo, IsOptional, IsForStart, IsFor, IsContinue, IsBreak, IsReturn, Closed, IsStmtLine, StmtAt}
use Rattle.c_expr.specs.Reading.{until, ◌>>◌, ◌<$>◌}
use Rattle.c_parser.specs.ReadingUnits.{optional, condition, for_start, block_item, block_items, block, expr_statement, if_statement, while_statement, do_statement, for_statement, return_statement, break_statement, continue_statement, stmt_line, statement_at}
use Rattle.c_expr.proofs.Alike.{false_is_not_true}
use Rattle.c_parser.proofs.Declarations.{any_starts, starts_declaration}
use Rattle.c_expr.proofs.Repeat.{Filled}
use Rattle.c_expr.proofs.Unary.{same_word}
use Rattle.c_expr.proofs.Again.{again_grown}
use Rattle.c_expr.proofs.Past.{begins_other}
use Rattle.c_expr.proofs.ExprAgain.{clear_on, again_empty, again_parens_here}
use Rattle.c_parser.proofs.Declarations.{any_again, again_declaration}
use Rattle.c_parser.proofs.Statements.{stmt_starts, starts_stmt_at}

-- a statement that ends with an `if` to which an `else` could belong only where this is allowed
abbrev pub Open : Bool → Spelling (Stmt × Bool) → Spelling Stmt
Open b S x w = (o : Bool) × S (x, o) w × (o ≡ true → b ≡ true)

-- no `else` follows where that is so
abbrev pub Tail : Bool → Ahead
Tail b rest = b ≡ true → Off (else_word ∷ []) rest

again_union : {A : Type 0} {n : ℕ} {S T : Spelling A} {R : Reader A} {P : Ahead} → Again n S R P → Again n T R P → Again n (S or T) R P
again_union {n = n} {S = S} {T = T} {R = R} {P = P} s t = record { read = λ x f rest h few p. read_either x f rest h few p }
  where
    read_either : (x : _) (f rest : List Token) → (S or T) x f → length f ≤ n → P rest → R (f ++ rest) ≡ Ok (x, rest)
    read_either x f rest (inl h) few p = s.read x f rest h few p
    read_either x f rest (inr h) few p = t.read x f rest h few p

again_never : {A : Type 0} {n : ℕ} {R : Reader A} {P : Ahead} → Again n Never R P
again_never = record { read = λ x f rest h few p. absurd h }

-- a line to which no `else` can belong
closed_word : (src : Bytes) (S : Spelling (Stmt × Bool)) (T : Spelling Stmt) (x : Stmt) (o : Bool) (w : List Token) → Closed src S T (x, o) w → T x w
closed_word src S T x o w h = same_word T x h.of w h.front h.back (ap (λ p. p.0) h.second.0) h.parts h.second.1 h.first

or_false : (b : Bool) → b ≡ (b || false)
or_false true = refl
or_false false = refl

until_other : (w : List Token) → begins (specifier_starts ++ stmt_starts) w ≡ true → until close_brace w ≡ true
unfolding begins until
until_other [] e = absurd (false_is_not_true e)
until_other (t ∷ w) e = ap not (or_false (code t == close_brace) ∙ apart_one (specifier_starts ++ stmt_starts) (close_brace ∷ []) (code t) refl e)

until_same : (w : List Token) → On (close_brace ∷ []) w → until close_brace w ≡ false
unfolding begins until
until_same [] e = refl
until_same (t ∷ w) e = ap not (or_false (code t == close_brace) ∙ e)

module _ (src : Bytes) (n d : ℕ) (le : suc d ≤ n) (S : Spelling (Stmt × Bool)) (stmt : Reader Stmt) (h : (b : Bool) → Again d (Open b S) stmt (Tail b)) (starts : Starts stmt_starts S) where
  abbrev E : Start → Reader Expr
  E = expr_at src n

  abbrev D : Naming → Reader Declarator
  D = declarator_at src n

  e : (start : Start) → Again d (AnyExpr src start) (E start) (Off (expr_on start))
  e start = again_fewer (omega arith) (any_again src n start)

  starts_open : (b : Bool) → Starts stmt_starts (Open b S)
  starts_open b x w k = starts (x, k.0) w k.1

  -- ---- parts

  tail_of_on : (k : ℕ) → apart (k ∷ []) (else_word ∷ []) ≡ true → (rest : List Token) → On (k ∷ []) rest → Tail true rest
  tail_of_on k e rest on _ = begins_other (k ∷ []) (else_word ∷ []) e rest on

  abbrev item_starts : List ℕ
  item_starts = specifier_starts ++ stmt_starts

  abbrev Part : Spelling BlockItem
  Part = Sequence (IsDeclaration src) (λ x. Is (b.Declaration x)) or Sequence (Open true S) (λ x. Is (b.Statement x))

  starts_item_of : Starts item_starts Part
  starts_item_of = starts_either item_starts (Sequence (IsDeclaration src) (λ x. Is (b.Declaration x))) (Sequence (Open true S) (λ x. Is (b.Statement x)))
      (starts_wider specifier_starts _ (starts_sequence specifier_starts (IsDeclaration src) (starts_declaration src) _) item_starts refl)
      (starts_wider stmt_starts _ (starts_sequence stmt_starts (Open true S) (starts_open true) _) item_starts refl)

  again_item_of : Again d Part (block_item E D n stmt) (Tail true)
  unfolding block_item
  again_item_of = again_if specifier_starts stmt_starts specifier_starts (starts_sequence specifier_starts (IsDeclaration src) (starts_declaration src) _) refl (starts_sequence stmt_starts (Open true S) (starts_open true) _) refl
      (again_map b.Declaration (again_fewer (omega arith) (again_declaration src n))) (again_map b.Statement (h true))

  until_starts : (x : BlockItem) (f rest : List Token) → Part x f → until close_brace (f ++ rest) ≡ true
  until_starts x f rest k = until_other (f ++ rest) (begins_with item_starts Part starts_item_of item_starts (within_self item_starts) x f rest k)

  until_on : (rest : List Token) → On (close_brace ∷ []) rest → (until close_brace rest ≡ false) × Tail true rest
  until_on rest on = (until_same rest on, tail_of_on close_brace refl rest on)

  clear_part : Clear (Tail true) Part Anything
  clear_part = record { clear = λ x f rest k q _. begins_apart item_starts Part starts_item_of (else_word ∷ []) refl x f rest k }

  abbrev Block_of : Spelling Block
  Block_of = Sequence (One open_brace) (λ t. Sequence (Further Part []) (λ items. Sequence (One close_brace) (λ u. Is (block_node t.line items u.line))))

  again_block_of : {P : Ahead} → Again (suc d) Block_of (block E D n stmt) P
  unfolding block block_items
  again_block_of = again_after (λ t. again_seq
      (again_grown d (until close_brace) push Part (block_item E D n stmt) (Tail true) (On (close_brace ∷ [])) again_item_of until_starts (starts_filled item_starts Part starts_item_of) clear_part until_on [])
      (λ items. clear_on close_brace _) (λ items. again_behind (λ u. again_is d (block_node t.line items u.line))))

  again_condition : {P : Ahead} → Again d (In_parens (AnyExpr src at.Expression)) (condition E D n) P
  unfolding condition expr_on level_on binary_operators
  again_condition = again_parens_here (expr_on at.Expression) (e at.Expression) refl

  again_optional : (k : ℕ) → apart expr_starts (k ∷ []) ≡ true → apart (k ∷ []) (expr_on at.Expression) ≡ true → Again d (IsOptional src S) (optional E D n k) (On (k ∷ []))
  again_optional k a c = again_empty expr_starts k None (starts_sequence expr_starts (AnyExpr src at.Expression) (any_starts src at.Expression) _) a (again_map Some (again_ahead (off_of (k ∷ []) (expr_on at.Expression) c) (e at.Expression)))

  until_semicolon : Again d (IsOptional src S) (optional E D n semicolon) (On (semicolon ∷ []))
  unfolding expr_on level_on binary_operators
  until_semicolon = again_optional semicolon refl refl

  until_paren : Again d (IsOptional src S) (optional E D n close_paren) (On (close_paren ∷ []))
  unfolding expr_on level_on binary_operators
  until_paren = again_optional close_paren refl refl

  starts_start : Starts (semicolon ∷ expr_starts) (Sequence (IsOptional src S) (λ x. Sequence (One semicolon) (λ _. Is (f.Expr x))))
  starts_start = starts_empty (semicolon ∷ expr_starts) (Sequence (AnyExpr src at.Expression) (λ x. Is (Some x))) None _
      (starts_wider expr_starts _ (starts_sequence expr_starts (AnyExpr src at.Expression) (any_starts src at.Expression) _) (semicolon ∷ expr_starts) refl)
      (λ x. starts_wider (semicolon ∷ []) _ (starts_sequence (semicolon ∷ []) (One semicolon) (starts_one semicolon) _) (semicolon ∷ expr_starts) refl)

  again_for_start : {P : Ahead} → Again d (IsForStart src S) (for_start E D n) P
  unfolding for_start
  again_for_start = again_if specifier_starts (semicolon ∷ expr_starts) specifier_starts (starts_sequence specifier_starts (IsDeclaration src) (starts_declaration src) _) refl starts_start refl
      (again_map f.Declaration (again_fewer (omega arith) (again_declaration src n)))
      (again_seq until_semicolon (λ x. clear_on semicolon _) (λ x. again_behind (λ _. again_is d (f.Expr x))))

  -- ---- lines to which no `else` can belong

  abbrev Do_of : Spelling Stmt
  Do_of = Sequence (One do_word) (λ t. Sequence (Open true S) (λ body. Sequence (One while_word) (λ _. Sequence (In_parens (AnyExpr src at.Expression)) (λ x. Sequence (One semicolon) (λ _. Is (do_stmt t.line body x))))))

  again_do : {P : Ahead} → Again (suc d) Do_of (do_statement E D n stmt) P
  unfolding do_statement
  again_do = again_after (λ t. again_seq (h true) (λ body. record { clear = λ x f rest k q _. begins_apart (while_word ∷ []) _ (starts_sequence (while_word ∷ []) (One while_word) (starts_one while_word) _) (else_word ∷ []) refl x f rest k })
      (λ body. again_behind (λ _. again_seq {P = Anything} again_condition (λ x. clear_any) (λ x. again_behind (λ _. again_is d (do_stmt t.line body x))))))

  again_return : {P : Ahead} → Again (suc d) (IsReturn src S) (return_statement E D n stmt) P
  unfolding return_statement
  again_return = again_after (λ t. again_seq until_semicolon (λ x. clear_on semicolon _) (λ x. again_behind (λ _. again_is d (return_stmt t.line x))))

  again_break : {P : Ahead} → Again (suc d) (IsBreak src S) (break_statement E D n stmt) P
  unfolding break_statement
  again_break = again_after (λ t. again_behind (λ _. again_is d (break_stmt t.line)))

  again_continue : {P : Ahead} → Again (suc d) (IsContinue src S) (continue_statement E D n stmt) P
  unfolding continue_statement
  again_continue = again_after (λ t. again_behind (λ _. again_is d (continue_stmt t.line)))

  again_expr_stmt : {P : Ahead} → Again (suc d) (IsExprStmt src S) (expr_statement E D n stmt) P
  unfolding expr_statement expr_on level_on binary_operators
  again_expr_stmt = again_seq (again_fewer le (any_again src n at.Expression)) (λ x. clear_one semicolon (expr_on at.Expression) _ refl) (λ x. again_behind (λ _. again_is (suc d) (expr_stmt x)))

  -- ---- lines that end with a statement

  tail_is : {A : Type 0} (b : Bool) (a : A) → Clear (Tail b) (Is a) (Tail b)
  tail_is b a = clear_is a (Tail b) (Tail b) (λ rest q. q)

  abbrev While_of : Bool → Spelling Stmt
  While_of b = Sequence (One while_word) (λ t. Sequence (In_parens (AnyExpr src at.Expression)) (λ x. Sequence (Open b S) (λ body. Is (while_stmt t.line x body))))

  again_while : (b : Bool) → Again (suc d) (While_of b) (while_statement E D n stmt) (Tail b)
  unfolding while_statement
  again_while b = again_after (λ t. again_seq {P = Anything} again_condition (λ x. clear_any) (λ x. again_seq (h b) (λ body. tail_is b (while_stmt t.line x body)) (λ body. again_is d (while_stmt t.line x body))))

  abbrev For_of : Bool → Spelling Stmt
  For_of b = Sequence (One for_word) (λ t. Sequence (One open_paren) (λ _. Sequence (IsForStart src S) (λ start. Sequence (IsOptional src S) (λ x. Sequence (One semicolon) (λ _.
      Sequence (IsOptional src S) (λ step. Sequence (One close_paren) (λ _. Sequence (Open b S) (λ body. Is (for_stmt t.line (for_head start x step) body)))))))))

  again_for : (b : Bool) → Again (suc d) (For_of b) (for_statement E D n stmt) (Tail b)
  unfolding for_statement
  again_for b = again_after (λ t. again_behind (λ _. again_seq {P = Anything} again_for_start (λ start. clear_any) (λ start. again_seq until_semicolon (λ x. clear_on semicolon _) (λ x. again_behind (λ _.
      again_seq until_paren (λ step. clear_on close_paren _) (λ step. again_behind (λ _. again_seq (h b) (λ body. tail_is b (for_stmt t.line (for_head start x step) body)) (λ body. again_is d (for_stmt t.line (for_head start x step) body)))))))))

  abbrev Else_of : Bool → Spelling (Option Stmt)
  Else_of b = Sequence (One else_word) (λ _. Sequence (Open b S) (λ x. Is (Some x)))

  abbrev With_else : Bool → Token → Expr → Spelling Stmt
  With_else b t x = Sequence (Open false S) (λ first. Sequence (Else_of b) (λ second. Is (if_stmt t.line x first second)))

  -- without `else`, where one could follow
  abbrev Without : Bool → Token → Expr → Spelling Stmt
  Without true t x = Sequence (Open true S) (λ first. Sequence (Is None) (λ second. Is (if_stmt t.line x first second)))
  Without false t x = Never

  abbrev If_of : Bool → Spelling Stmt
  If_of b = Sequence (One if_word) (λ t. Sequence (In_parens (AnyExpr src at.Expression)) (λ x. With_else b t x or Without b t x))

  abbrev second_branch : Reader (Option Stmt)
  second_branch = choose (begins (else_word ∷ [])) (one else_word >> (Some <$> stmt)) (pure None)

  again_else : (b : Bool) → Again d (Else_of b) second_branch (Tail b)
  again_else b = again_narrower (λ x w k. inl k) (again_choose {T = Never} (begins (else_word ∷ [])) (again_behind (λ _. again_map Some (h b))) again_never
      (λ x f rest k q. begins_with (else_word ∷ []) (Else_of b) (starts_sequence (else_word ∷ []) (One else_word) (starts_one else_word) _) (else_word ∷ []) refl x f rest k) (λ x f rest k q. absurd k))

  again_no_else : Again d (Is None) second_branch (Tail true)
  again_no_else = again_narrower {S = Never or Is None} (λ x w k. inr k) (again_choose (begins (else_word ∷ [])) again_never (again_is d None) (λ x f rest k q. absurd k)
      (λ x f rest k q. ap (λ v. begins (else_word ∷ []) (v ++ rest)) k.1 ∙ q refl))

  again_with_else : (b : Bool) (t : Token) (x : Expr) → Again d (With_else b t x) (λ w. and_then (stmt w) (λ first v. and_then (second_branch v) (λ second. pure (if_stmt t.line x first second)))) (Tail b)
  again_with_else b t x = again_seq (h false) (λ first. record { clear = λ y f rest k q e. absurd (false_is_not_true e) })
      (λ first. again_seq (again_else b) (λ second. tail_is b (if_stmt t.line x first second)) (λ second. again_is d (if_stmt t.line x first second)))

  again_without : (b : Bool) (t : Token) (x : Expr) → Again d (Without b t x) (λ w. and_then (stmt w) (λ first v. and_then (second_branch v) (λ second. pure (if_stmt t.line x first second)))) (Tail b)
  again_without true t x = again_seq (h true) (λ first. clear_sequence (clear_is None (Tail true) (Tail true) (λ rest q. q)) (λ second. tail_is true (if_stmt t.line x first second)))
      (λ first. again_seq again_no_else (λ second. tail_is true (if_stmt t.line x first second)) (λ second. again_is d (if_stmt t.line x first second)))
  again_without false t x = again_never

  again_if_of : (b : Bool) → Again (suc d) (If_of b) (if_statement E D n stmt) (Tail b)
  unfolding if_statement
  again_if_of b = again_after (λ t. again_seq {P = Anything} again_condition (λ x. clear_any) (λ x. again_union (again_with_else b t x) (again_without b t x)))

  -- ---- all lines

  abbrev Line_of : Bool → Spelling Stmt
  Line_of b = Sequence Block_of (λ k. Is (block_stmt k)) or IsEmptyStmt src S or If_of b or While_of b or Do_of or For_of b or IsReturn src S or IsBreak src S or IsContinue src S or IsExprStmt src S

  starts_word : (k : ℕ) (T : Token → Spelling Stmt) → Starts (k ∷ []) (Sequence (One k) T)
  starts_word k T = starts_sequence (k ∷ []) (One k) (starts_one k) T

  starts_expr_stmt : Starts expr_starts (IsExprStmt src S)
  starts_expr_stmt = starts_sequence expr_starts (AnyExpr src at.Expression) (any_starts src at.Expression) _

  -- a line, and those behind it in the list, which begin with other words
  record Behind (b : Bool) (ks : List ℕ) (T : Spelling Stmt) (R : Reader Stmt) : Type 0 where
    begin : Starts ks T
    again : Again (suc d) T R (Tail b)

  in_front_of : (b : Bool) (k : ℕ) (ks : List ℕ) (T U : Spelling Stmt) (R Q : Reader Stmt) → Starts (k ∷ []) T → Again (suc d) T R (Tail b) → Behind b ks U Q → apart ks (k ∷ []) ≡ true → Behind b (k ∷ ks) (T or U) (choose (begins (k ∷ [])) R Q)
  in_front_of b k ks T U R Q s r u e = record {
    begin = starts_either (k ∷ ks) T U (starts_wider (k ∷ []) T s (k ∷ ks) (within_left (k ∷ []) ks)) (starts_wider ks U u.begin (k ∷ ks) (within_right (k ∷ []) ks));
    again = again_if (k ∷ []) ks (k ∷ []) s (within_self (k ∷ [])) u.begin e r u.again;
  }

  again_line_of : (b : Bool) → Again (suc d) (Line_of b) (stmt_line E D n stmt) (Tail b)
  unfolding stmt_line
  again_line_of b =
      (in_front_of b open_brace _ _ _ _ _ (starts_sequence (open_brace ∷ []) Block_of (starts_sequence (open_brace ∷ []) (One open_brace) (starts_one open_brace) _) _) (again_map block_stmt again_block_of)
      (in_front_of b semicolon _ _ _ _ _ (starts_word semicolon _) (again_map (λ t. empty_stmt t.line) (again_token (suc d) (of_kind semicolon)))
      (in_front_of b if_word _ _ _ _ _ (starts_word if_word _) (again_if_of b)
      (in_front_of b while_word _ _ _ _ _ (starts_word while_word _) (again_while b)
      (in_front_of b do_word _ _ _ _ _ (starts_word do_word _) again_do
      (in_front_of b for_word _ _ _ _ _ (starts_word for_word _) (again_for b)
      (in_front_of b return_word _ _ _ _ _ (starts_word return_word _) again_return
      (in_front_of b break_word _ _ _ _ _ (starts_word break_word _) again_break
      (in_front_of b continue_word expr_starts _ _ _ _ (starts_word continue_word _) again_continue (record { begin = starts_expr_stmt; again = again_expr_stmt }) refl) refl) refl) refl) refl) refl) refl) refl) refl).again

  -- ---- what is spelled is one of these lines

  second_told : (o1 : Bool) (second : Option Stmt × Bool) (v : List Token) → IsElse src S o1 second v → (o1 ≡ false) × Sequence (One else_word) (λ _. Sequence S (λ p. Is (Some p.0, p.1))) second v
  second_told true second v k = absurd k
  second_told false second v k = (refl, k)

  without_of : (b : Bool) (t : Token) (x : Expr) (y : Stmt) (v : List Token) → b ≡ true → Sequence (Open true S) (λ first. Sequence (Is None) (λ second. Is (if_stmt t.line x first second))) y v → Without b t x y v
  without_of true t x y v e k = k
  without_of false t x y v e k = absurd (false_is_not_true e)

  abbrev if_value : Token → Expr → Stmt → Option Stmt × Bool → Stmt × Bool
  if_value t x first second = (if_stmt t.line x first second.0, second.1)

  abbrev Branches : Token → Expr → Spelling (Stmt × Bool)
  Branches t x = Sequence S (λ first. Sequence (IsElse src S first.1 or Is (None, true)) (λ second. Is (if_value t x first.0 second)))

  if_branches : (b : Bool) (t : Token) (x : Expr) (y : Stmt) (o : Bool) (v : List Token) → (o ≡ true → b ≡ true)
      → Branches t x (y, o) v → (With_else b t x or Without b t x) y v
  if_branches b t x y o v q k = elim k.second.first [
    | inl other ↦
        (let told = second_told k.of.1 k.second.of k.second.front other in
        let value : (y, o) ≡ (if_stmt t.line x k.of.0 k.second.of.0, k.second.of.1) = k.second.second.0 in
        let branch = told.1.second in
        let same : k.second.of ≡ (Some branch.of.0, branch.of.1) = branch.second.0 in
        let flag : o ≡ branch.of.1 = ap (λ p. p.1) value ∙ ap (λ p. p.1) same in
        inl (record {
          of = k.of.0;
          front = k.front;
          back = k.back;
          parts = k.parts;
          first = (k.of.1, k.first, λ e. absurd (false_is_not_true (sym told.0 ∙ e)));
          second = record {
            of = Some branch.of.0;
            front = k.second.front;
            back = k.second.back;
            parts = k.second.parts;
            first = record {
              of = told.1.of;
              front = told.1.front;
              back = told.1.back;
              parts = told.1.parts;
              first = told.1.first;
              second = record { of = branch.of.0; front = branch.front; back = branch.back; parts = branch.parts; first = (branch.of.1, branch.first, λ e. q (flag ∙ e)); second = (refl, branch.second.1) };
            };
            second = (ap (λ p. p.0) value ∙ ap (λ p. if_stmt t.line x k.of.0 p.0) same, k.second.second.1);
          };
        }))
    | inr none ↦
        (let value : (y, o) ≡ (if_stmt t.line x k.of.0 k.second.of.0, k.second.of.1) = k.second.second.0 in
        let flag : o ≡ true = ap (λ p. p.1) value ∙ ap (λ p. p.1) none.0 in
        inr (without_of b t x y v (q flag) (record {
          of = k.of.0;
          front = k.front;
          back = k.back;
          parts = k.parts;
          first = (k.of.1, k.first, λ e. refl);
          second = record {
            of = None;
            front = k.second.front;
            back = k.second.back;
            parts = k.second.parts;
            first = (refl, none.1);
            second = (ap (λ p. p.0) value ∙ ap (λ p. if_stmt t.line x k.of.0 p.0) none.0, k.second.second.1);
          };
        })))
  ]

  while_word_of : (b : Bool) (y : Stmt) (o : Bool) (w : List Token) → (o ≡ true → b ≡ true) → IsWhile src S (y, o) w → While_of b y w
  while_word_of b y o w q k =
      let body = k.second.second in
      let value : (y, o) ≡ (while_stmt k.of.line k.second.of body.of.0, body.of.1) = body.second.0 in
      record {
        of = k.of;
        front = k.front;
        back = k.back;
        parts = k.parts;
        first = k.first;
        second = record {
          of = k.second.of;
          front = k.second.front;
          back = k.second.back;
          parts = k.second.parts;
          first = k.second.first;
          second = record { of = body.of.0; front = body.front; back = body.back; parts = body.parts; first = (body.of.1, body.first, λ e. q (ap (λ p. p.1) value ∙ e)); second = (ap (λ p. p.0) value, body.second.1) };
        };
      }

  for_word_of : (b : Bool) (y : Stmt) (o : Bool) (w : List Token) → (o ≡ true → b ≡ true) → IsFor src S (y, o) w → For_of b y w
  for_word_of b y o w q k =
      let k1 = k.second in
      let k2 = k1.second in
      let k3 = k2.second in
      let k4 = k3.second in
      let k5 = k4.second in
      let k6 = k5.second in
      let body = k6.second in
      let value : (y, o) ≡ (for_stmt k.of.line (for_head k2.of k3.of k5.of) body.of.0, body.of.1) = body.second.0 in
      record {
        of = k.of;
        front = k.front;
        back = k.back;
        parts = k.parts;
        first = k.first;
        second = record {
          of = k1.of;
          front = k1.front;
          back = k1.back;
          parts = k1.parts;
          first = k1.first;
          second = record {
            of = k2.of;
            front = k2.front;
            back = k2.back;
            parts = k2.parts;
            first = k2.first;
            second = record {
              of = k3.of;
              front = k3.front;
              back = k3.back;
              parts = k3.parts;
              first = k3.first;
              second = record {
                of = k4.of;
                front = k4.front;
                back = k4.back;
                parts = k4.parts;
                first = k4.first;
                second = record {
                  of = k5.of;
                  front = k5.front;
                  back = k5.back;
                  parts = k5.parts;
                  first = k5.first;
                  second = record {
                    of = k6.of;
                    front = k6.front;
                    back = k6.back;
                    parts = k6.parts;
                    first = k6.first;
                    second = record { of = body.of.0; front = body.front; back = body.back; parts = body.parts; first = (body.of.1, body.first, λ e. q (ap (λ p. p.1) value ∙ e)); second = (ap (λ p. p.0) value, body.second.1) };
                  };
                };
              };
            };
          };
        };
      }

  part_of : (x : BlockItem) (w : List Token) → IsBlockItem src S x w → Part x w
  part_of x w (inl k) = inl k
  part_of x w (inr k) = inr (record { of = k.of.0; front = k.front; back = k.back; parts = k.parts; first = (k.of.1, k.first, λ e. refl); second = k.second })

  many_parts : (xs : List BlockItem) (w : List Token) → Many (IsBlockItem src S) xs w → Many Part xs w
  many_parts [] w k = k
  many_parts (x ∷ xs) w k = (k.0, k.1, k.2, part_of x k.0 k.3, many_parts xs k.1 k.4)

  pub block_word_of : (x : Block) (w : List Token) → IsBlock src S x w → Block_of x w
  block_word_of x w k = record {
    of = k.of;
    front = k.front;
    back = k.back;
    parts = k.parts;
    first = k.first;
    second = record { of = k.second.of; front = k.second.front; back = k.second.back; parts = k.second.parts; first = (k.second.first.0, many_parts k.second.first.0 k.second.front k.second.first.1, k.second.first.2); second = k.second.second };
  }

  do_word_of : (x : Stmt) (w : List Token) → IsDo src S x w → Do_of x w
  do_word_of x w k = record {
    of = k.of;
    front = k.front;
    back = k.back;
    parts = k.parts;
    first = k.first;
    second = record { of = k.second.of.0; front = k.second.front; back = k.second.back; parts = k.second.parts; first = (k.second.of.1, k.second.first, λ e. refl); second = k.second.second };
  }

  line_of_word : (b : Bool) (x : Stmt) (o : Bool) (w : List Token) → (o ≡ true → b ≡ true) → IsStmtLine src S (x, o) w → Line_of b x w
  line_of_word b x o w q (inl k) = let c = closed_word src S (IsBlockStmt src S) x o w k in inl (record { of = c.of; front = c.front; back = c.back; parts = c.parts; first = block_word_of c.of c.front c.first; second = c.second })
  line_of_word b x o w q (inr (inl k)) = inr (inl (closed_word src S (IsEmptyStmt src S) x o w k))
  line_of_word b x o w q (inr (inr (inl k))) = inr (inr (inl (record {
    of = k.of;
    front = k.front;
    back = k.back;
    parts = k.parts;
    first = k.first;
    second = record { of = k.second.of; front = k.second.front; back = k.second.back; parts = k.second.parts; first = k.second.first; second = if_branches b k.of k.second.of x o k.second.back q k.second.second };
  })))
  line_of_word b x o w q (inr (inr (inr (inl k)))) = inr (inr (inr (inl (while_word_of b x o w q k))))
  line_of_word b x o w q (inr (inr (inr (inr (inl k))))) = inr (inr (inr (inr (inl (do_word_of x w (closed_word src S (IsDo src S) x o w k))))))
  line_of_word b x o w q (inr (inr (inr (inr (inr (inl k)))))) = inr (inr (inr (inr (inr (inl (for_word_of b x o w q k))))))
  line_of_word b x o w q (inr (inr (inr (inr (inr (inr (inl k))))))) = inr (inr (inr (inr (inr (inr (inl (closed_word src S (IsReturn src S) x o w k)))))))
  line_of_word b x o w q (inr (inr (inr (inr (inr (inr (inr (inl k)))))))) = inr (inr (inr (inr (inr (inr (inr (inl (closed_word src S (IsBreak src S) x o w k))))))))
  line_of_word b x o w q (inr (inr (inr (inr (inr (inr (inr (inr (inl k))))))))) = inr (inr (inr (inr (inr (inr (inr (inr (inl (closed_word src S (IsContinue src S) x o w k)))))))))
  line_of_word b x o w q (inr (inr (inr (inr (inr (inr (inr (inr (inr k))))))))) = inr (inr (inr (inr (inr (inr (inr (inr (inr (closed_word src S (IsExprStmt src S) x o w k)))))))))

  pub again_stmt_line : (b : Bool) → Again (suc d) (Open b (IsStmtLine src S)) (stmt_line E D n stmt) (Tail b)
  again_stmt_line b = again_narrower (λ x w k. line_of_word b x k.0 w k.2 k.1) (again_line_of b)

  pub again_block : {P : Ahead} → Again (suc d) (IsBlock src S) (block E D n stmt) P
  again_block = again_narrower block_word_of again_block_of

-- ---- at each depth

filled_open : (b : Bool) (S : Spelling (Stmt × Bool)) → Starts stmt_starts S → Filled (Open b S)
filled_open b S s x w k = starts_filled stmt_starts S s (x, k.0) w k.1

pub again_stmt_at : (src : Bytes) (n depth d : ℕ) → d ≤ n → (b : Bool) → Again d (Open b (StmtAt src depth)) (statement_at (expr_at src n) (declarator_at src n) n d) (Tail b)
unfolding StmtAt statement_at
again_stmt_at src n zero d le b = record { read = λ x f rest k few p. absurd k.1 }
again_stmt_at src n (suc depth) zero le b = nothing (filled_open b (StmtAt src (suc depth)) (starts_stmt_at src (suc depth)))
again_stmt_at src n (suc depth) (suc d) le b =
    again_stmt_line src n d le (StmtAt src depth) (statement_at (expr_at src n) (declarator_at src n) n d) (λ c. again_stmt_at src n depth d (omega arith) c) (starts_stmt_at src depth) b
