-- The readers of declarations, statements and units do not depend on the depth, where it is at least the number of
-- tokens.
use Rattle.std.proofs.Common.{◌≡◌, ℕ, zero, suc, ◌≤◌, List, [], ◌∷◌, length, ap, Some, None, arith}
use Rattle.c_lexer.specs.declared.token.Token.{Token}
use Rattle.c_tree.specs.declared.expression.Expr.{Expr}
use Rattle.c_tree.specs.declared.expression.Declarator.{Declarator}
use Rattle.c_tree.specs.declared.declaration.Item.{Item}
use Rattle.c_tree.specs.declared.declaration.Initializer.{Initializer}
use Rattle.c_expr.specs.declared.start.Start.{Start}
use Rattle.c_expr.specs.declared.start.Start.TheVariants as at
use Rattle.c_expr.specs.declared.start.Naming.{Naming}
use Rattle.c_expr.specs.declared.start.Naming.TheVariants as how
use Rattle.c_expr.specs.Codes.{of_kind, open_brace, semicolon, specifier_starts}
use Rattle.c_expr.specs.Nodes.{Bytes}
use Rattle.c_parser.specs.StatementNodes.{item_node, declaration_node}
use Rattle.c_expr.specs.Spelling.{push}
use Rattle.c_parser.specs.Units.{InitializerAt}
use Rattle.c_expr.specs.Reading.{Reader, begins, and_then, specifiers, expr_at, declarator_at}
use Rattle.c_parser.specs.ReadingUnits.{initializer_list, initializer_line, initializer_at, given, item, further_items, declaration}
use Rattle.c_expr.proofs.Starts.{starts_filled}
use Rattle.c_tree.specs.declared.statement.Stmt.{Stmt}
use Rattle.c_tree.specs.declared.statement.ForStart.TheVariants as f
use Rattle.c_tree.specs.declared.statement.BlockItem.TheVariants as b
use Rattle.c_expr.specs.Codes.{close_paren, break_word, continue_word, do_word, for_word, if_word, return_word, while_word}
use Rattle.c_parser.specs.StatementNodes.{block_node, block_stmt, empty_stmt, expr_stmt, if_stmt, while_stmt, do_stmt, for_head, for_stmt, continue_stmt, break_stmt, return_stmt}
use Rattle.c_parser.specs.Units.{StmtAt}
use Rattle.c_parser.specs.ReadingUnits.{optional, condition, for_start, block_item, block_items, block, expr_statement, if_statement, while_statement, do_statement, for_statement, return_statement, break_statement, continue_statement, stmt_line, statement_at}
use Rattle.c_parser.proofs.Statements.{stmt_starts, starts_stmt_at}
use Rattle.c_tree.specs.declared.unit.External.TheVariants as x
use Rattle.c_parser.specs.StatementNodes.{function_node, unit_node}
use Rattle.c_parser.specs.ReadingUnits.{function_body, other_items, external, ended, unit}
use Rattle.c_parser.proofs.Declarations.{initializer_starts, starts_initializer_at, reads_initializer_at}
use Rattle.c_parser.proofs.Statements.{reads_statement_at}
use Rattle.c_expr.proofs.Enough.{Same, same_seq, same_token, same_after, same_behind, same_is, same_map, same_choose, same_grown, same_fewer, same_listed, same_parens_here, same_none}
use Rattle.c_expr.proofs.EnoughExpr.{same_specifiers, same_expr_at}

module _ (src : Bytes) (n m : ℕ) (le : n ≤ m) where
  abbrev E : Start → Reader Expr
  E = expr_at src n

  abbrev F : Start → Reader Expr
  F = expr_at src m

  abbrev D : Naming → Reader Declarator
  D = declarator_at src n

  abbrev G : Naming → Reader Declarator
  G = declarator_at src m

  he : (start : Start) → Same n (E start) (F start)
  he start = (same_expr_at src n m le).expr start

  hd : (naming : Naming) → Same n (D naming) (G naming)
  hd naming = (same_expr_at src n m le).declarator naming

  specifiers_same : (k : ℕ) → Same k specifiers specifiers
  specifiers_same k = same_specifiers src n E F D G he hd k

  same_initializer_line : (d : ℕ) (inner inner' : Reader Initializer) → suc d ≤ n → Same d inner inner' → Same (suc d) (initializer_line E D inner) (initializer_line F G inner')
  unfolding initializer_list
  same_initializer_line d inner inner' le h = same_choose _ (same_after _ (λ t. same_seq (same_listed h) (λ found. same_behind _ (λ _. same_is d _)))) (same_map _ (same_fewer le (he at.Assignment)))

  same_initializer_at : (d k : ℕ) → d ≤ n → d ≤ k → k ≤ m → Same d (initializer_at E D d) (initializer_at F G k)
  unfolding initializer_at
  same_initializer_at zero k a b c = same_none (reads_initializer_at src m k c) (starts_filled (initializer_starts src) (InitializerAt src (suc k)) (starts_initializer_at src (suc k)))
  same_initializer_at (suc d) zero a b c = absurd (omega arith)
  same_initializer_at (suc d) (suc k) a b c = same_initializer_line d (initializer_at E D d) (initializer_at F G k) a (same_initializer_at d k (omega arith) (omega arith) (omega arith))

  same_given : Same n (given E D n) (given F G m)
  unfolding given
  same_given = same_choose _ (same_map Some (same_behind _ (λ _. same_initializer_at n m (omega arith) le (omega arith)))) (same_is n None)

  same_item : Same n (item E D n) (item F G m)
  unfolding item
  same_item = same_seq (hd how.Named) (λ x. same_seq same_given (λ g. same_is n (item_node x g)))

  same_further : (found : List Item) → Same n (further_items E D n found) (further_items F G m found)
  unfolding further_items
  same_further found = same_seq (same_grown _ _ (same_behind _ (λ _. same_item)) found) (λ items. same_behind _ (λ _. same_is n items))

  same_declaration : Same n (declaration E D n) (declaration F G m)
  unfolding declaration
  same_declaration = same_seq (specifiers_same n) (λ ss. same_seq same_item (λ first. same_seq (same_further (first ∷ [])) (λ items. same_is n (declaration_node ss items))))

  -- ---- statements

  same_condition : Same n (condition E D n) (condition F G m)
  unfolding condition
  same_condition = same_parens_here (he at.Expression)

  same_optional : (k : ℕ) → Same n (optional E D n k) (optional F G m k)
  same_optional k = same_choose _ (same_is n None) (same_map Some (he at.Expression))

  same_for_start : Same n (for_start E D n) (for_start F G m)
  unfolding for_start
  same_for_start = same_choose _ (same_map f.Declaration same_declaration) (same_seq (same_optional semicolon) (λ x. same_behind _ (λ _. same_is n (f.Expr x))))

  module _ (d : ℕ) (low : suc d ≤ n) (stmt stmt' : Reader Stmt) (h : Same d stmt stmt') where
    same_block_item : Same d (block_item E D n stmt) (block_item F G m stmt')
    unfolding block_item
    same_block_item = same_choose _ (same_map b.Declaration (same_fewer (omega arith) same_declaration)) (same_map b.Statement h)

    pub same_block : Same (suc d) (block E D n stmt) (block F G m stmt')
    unfolding block block_items
    same_block = same_after _ (λ t. same_seq (same_grown _ _ same_block_item []) (λ items. same_behind _ (λ u. same_is d (block_node t.line items u.line))))

    cond_same : Same d (condition E D n) (condition F G m)
    cond_same = same_fewer (omega arith) same_condition

    opt_same : (k : ℕ) → Same d (optional E D n k) (optional F G m k)
    opt_same k = same_fewer (omega arith) (same_optional k)

    same_if : Same (suc d) (if_statement E D n stmt) (if_statement F G m stmt')
    unfolding if_statement
    same_if = same_after _ (λ t. same_seq cond_same (λ x. same_seq h (λ first. same_seq (same_choose _ (same_behind _ (λ _. same_map Some h)) (same_is d None)) (λ second. same_is d (if_stmt t.line x first second)))))

    same_while : Same (suc d) (while_statement E D n stmt) (while_statement F G m stmt')
    unfolding while_statement
    same_while = same_after _ (λ t. same_seq cond_same (λ x. same_seq h (λ body. same_is d (while_stmt t.line x body))))

    same_do : Same (suc d) (do_statement E D n stmt) (do_statement F G m stmt')
    unfolding do_statement
    same_do = same_after _ (λ t. same_seq h (λ body. same_behind _ (λ _. same_seq cond_same (λ x. same_behind _ (λ _. same_is d (do_stmt t.line body x))))))

    same_for : Same (suc d) (for_statement E D n stmt) (for_statement F G m stmt')
    unfolding for_statement
    same_for = same_after _ (λ t. same_behind _ (λ _. same_seq (same_fewer (omega arith) same_for_start) (λ start. same_seq (opt_same semicolon) (λ x. same_behind _ (λ _. same_seq (opt_same close_paren) (λ step. same_behind _ (λ _.
        same_seq h (λ body. same_is d (for_stmt t.line (for_head start x step) body)))))))))

    same_return : Same (suc d) (return_statement E D n stmt) (return_statement F G m stmt')
    unfolding return_statement
    same_return = same_after _ (λ t. same_seq (opt_same semicolon) (λ x. same_behind _ (λ _. same_is d (return_stmt t.line x))))

    same_break : Same (suc d) (break_statement E D n stmt) (break_statement F G m stmt')
    unfolding break_statement
    same_break = same_after _ (λ t. same_behind _ (λ _. same_is d (break_stmt t.line)))

    same_continue : Same (suc d) (continue_statement E D n stmt) (continue_statement F G m stmt')
    unfolding continue_statement
    same_continue = same_after _ (λ t. same_behind _ (λ _. same_is d (continue_stmt t.line)))

    same_expr_statement : Same (suc d) (expr_statement E D n stmt) (expr_statement F G m stmt')
    unfolding expr_statement
    same_expr_statement = same_seq (same_fewer low (he at.Expression)) (λ x. same_behind _ (λ _. same_is (suc d) (expr_stmt x)))

    pub same_stmt_line : Same (suc d) (stmt_line E D n stmt) (stmt_line F G m stmt')
    unfolding stmt_line
    same_stmt_line = same_choose (begins (open_brace ∷ [])) (same_map block_stmt same_block) (same_choose (begins (semicolon ∷ [])) (same_map (λ t. empty_stmt t.line) (same_token (suc d) (of_kind semicolon)))
        (same_choose (begins (if_word ∷ [])) same_if (same_choose (begins (while_word ∷ [])) same_while (same_choose (begins (do_word ∷ [])) same_do (same_choose (begins (for_word ∷ [])) same_for
        (same_choose (begins (return_word ∷ [])) same_return (same_choose (begins (break_word ∷ [])) same_break (same_choose (begins (continue_word ∷ [])) same_continue same_expr_statement))))))))

  same_statement_at : (d k : ℕ) → d ≤ n → d ≤ k → k ≤ m → Same d (statement_at E D n d) (statement_at F G m k)
  unfolding statement_at
  same_statement_at zero k a b c = same_none (reads_statement_at src m k c) (λ x w h. starts_filled stmt_starts (StmtAt src (suc k)) (starts_stmt_at src (suc k)) (x, h.0) w h.1)
  same_statement_at (suc d) zero a b c = absurd (omega arith)
  same_statement_at (suc d) (suc k) a b c = same_stmt_line d a (statement_at E D n d) (statement_at F G m k) (same_statement_at d k (omega arith) (omega arith) (omega arith))

-- ---- units, where the first depth is not 0

module _ (src : Bytes) (n m : ℕ) (le : suc n ≤ m) where
  same_body : Same (suc n) (block (expr_at src (suc n)) (declarator_at src (suc n)) (suc n) (statement_at (expr_at src (suc n)) (declarator_at src (suc n)) (suc n) (suc n))) (block (expr_at src m) (declarator_at src m) m (statement_at (expr_at src m) (declarator_at src m) m m))
  same_body = same_block src (suc n) m le n (omega arith) _ _ (same_fewer (omega arith) (same_statement_at src (suc n) m le (suc n) m (omega arith) le (omega arith)))

  same_external : Same (suc n) (external (expr_at src (suc n)) (declarator_at src (suc n)) (suc n)) (external (expr_at src m) (declarator_at src m) m)
  unfolding external function_body other_items
  same_external = same_seq (specifiers_same src (suc n) m le (suc n)) (λ ss. same_seq (hd src (suc n) m le how.Named) (λ declared. same_choose _ (same_map (function_node ss declared) same_body)
      (same_seq (same_given src (suc n) m le) (λ g. same_seq (same_further src (suc n) m le (item_node declared g ∷ [])) (λ items. same_is (suc n) (x.Declaration (declaration_node ss items)))))))

  pub same_unit : (w : List Token) → length w ≤ suc n → unit (expr_at src (suc n)) (declarator_at src (suc n)) (suc n) w ≡ unit (expr_at src m) (declarator_at src m) m w
  unfolding unit
  same_unit w few = ap (λ r. and_then r (λ xs. ended (unit_node xs))) ((same_grown (begins specifier_starts) push same_external []).same w few)
