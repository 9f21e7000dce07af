-- Reading a declaration, a statement or a unit from the front of a list of tokens.
use Rattle.std.specs.Prelude.{ℕ, zero, suc, List, [], ◌∷◌, length, Option, Some, None, Result, Ok, Err}
use Rattle.c_lexer.specs.declared.token.Token.{Token}
use Rattle.c_tree.specs.declared.specifier.Specifier.{Specifier}
use Rattle.c_tree.specs.declared.expression.Expr.{Expr}
use Rattle.c_tree.specs.declared.expression.Declarator.{Declarator}
use Rattle.c_tree.specs.declared.declaration.Declaration.{Declaration}
use Rattle.c_tree.specs.declared.declaration.Item.{Item}
use Rattle.c_tree.specs.declared.declaration.Initializer.{Initializer}
use Rattle.c_tree.specs.declared.declaration.Initializer.TheVariants as i
use Rattle.c_tree.specs.declared.statement.Stmt.{Stmt}
use Rattle.c_tree.specs.declared.statement.ForStart.{ForStart}
use Rattle.c_tree.specs.declared.statement.ForStart.TheVariants as f
use Rattle.c_tree.specs.declared.statement.Block.{Block}
use Rattle.c_tree.specs.declared.statement.BlockItem.{BlockItem}
use Rattle.c_tree.specs.declared.statement.BlockItem.TheVariants as b
use Rattle.c_tree.specs.declared.unit.Unit.{Unit as TheUnit}
use Rattle.c_tree.specs.declared.unit.External.{External}
use Rattle.c_tree.specs.declared.unit.External.TheVariants as x
use Rattle.c_expr.specs.declared.start.Start.{Start}
use Rattle.c_expr.specs.declared.start.Start.TheVariants as at
use Rattle.c_expr.specs.declared.start.Naming.{Naming}
use Rattle.c_expr.specs.declared.start.Naming.TheVariants as n
use Rattle.c_expr.specs.Codes.{open_brace, close_brace, open_paren, close_paren, semicolon, equals, comma, break_word, continue_word, do_word, else_word, for_word, if_word, return_word, while_word, specifier_starts}
use Rattle.c_expr.specs.Spelling.{push}
use Rattle.c_expr.specs.Reading.{Reader, ◌>>=◌, ◌>>◌, ◌<$>◌, pure, stop, one, begins, until, choose, grown, behind_comma, listed, in_parens, specifiers, expr_at, declarator_at}
use Rattle.c_expr.specs.Nodes.{Bytes}
use Rattle.c_parser.specs.StatementNodes.{item_node, declaration_node, block_node, block_stmt, empty_stmt, expr_stmt, if_stmt, while_stmt, do_stmt, for_head, for_stmt, continue_stmt, break_stmt, return_stmt, function_node, unit_node}

-- up to the end of the tokens
abbrev pub ended : {A : Type 0} → A → Reader A
ended a [] = Ok (a, [])
ended a (t ∷ rest) = Err (length (t ∷ rest))

module _ (expr : Start → Reader Expr) (declarator : Naming → Reader Declarator) where
  -- ---- declarations

  unfoldable pub initializer_list : Reader Initializer → Reader Initializer
  initializer_list inner = do
    t ← one open_brace
    found ← listed inner
    one close_brace
    pure (i.List t.line found)

  abbrev pub initializer_line : Reader Initializer → Reader Initializer
  initializer_line inner = choose (begins (open_brace ∷ [])) (initializer_list inner) (i.Value <$> expr at.Assignment)

  unfoldable pub initializer_at : ℕ → Reader Initializer
  initializer_at zero = stop
  initializer_at (suc depth) = initializer_line (initializer_at depth)

  module _ (depth : ℕ) where
    unfoldable pub given : Reader (Option Initializer)
    given = choose (begins (equals ∷ [])) (Some <$> (one equals >> initializer_at depth)) (pure None)

    unfoldable pub item : Reader Item
    item = do
      declared ← declarator n.Named
      value ← given
      pure (item_node declared value)

    -- the items behind the first one, and the end
    unfoldable pub further_items : List Item → Reader (List Item)
    further_items found = do
      items ← grown (begins (comma ∷ [])) push (behind_comma item) found
      one semicolon
      pure items

    unfoldable pub declaration : Reader Declaration
    declaration = do
      ss ← specifiers
      first ← item
      items ← further_items (first ∷ [])
      pure (declaration_node ss items)

    -- ---- statements

    abbrev pub optional : ℕ → Reader (Option Expr)
    optional k = choose (begins (k ∷ [])) (pure None) (Some <$> expr at.Expression)

    unfoldable pub condition : Reader Expr
    condition = in_parens (expr at.Expression)

    unfoldable pub for_start : Reader ForStart
    for_start = choose (begins specifier_starts) (f.Declaration <$> declaration) (do
      x ← optional semicolon
      one semicolon
      pure (f.Expr x))

    module _ (stmt : Reader Stmt) where
      unfoldable pub block_item : Reader BlockItem
      block_item = choose (begins specifier_starts) (b.Declaration <$> declaration) (b.Statement <$> stmt)

      -- any number, up to a `}`
      unfoldable pub block_items : Reader (List BlockItem)
      block_items = grown (until close_brace) push block_item []

      unfoldable pub block : Reader Block
      block = do
        t ← one open_brace
        items ← block_items
        u ← one close_brace
        pure (block_node t.line items u.line)

      unfoldable pub expr_statement : Reader Stmt
      expr_statement = do
        x ← expr at.Expression
        one semicolon
        pure (expr_stmt x)

      unfoldable pub if_statement : Reader Stmt
      if_statement = do
        t ← one if_word
        x ← condition
        first ← stmt
        second ← choose (begins (else_word ∷ [])) (one else_word >> (Some <$> stmt)) (pure None)
        pure (if_stmt t.line x first second)

      unfoldable pub while_statement : Reader Stmt
      while_statement = do
        t ← one while_word
        x ← condition
        body ← stmt
        pure (while_stmt t.line x body)

      unfoldable pub do_statement : Reader Stmt
      do_statement = do
        t ← one do_word
        body ← stmt
        one while_word
        x ← condition
        one semicolon
        pure (do_stmt t.line body x)

      unfoldable pub for_statement : Reader Stmt
      for_statement = do
        t ← one for_word
        one open_paren
        start ← for_start
        x ← optional semicolon
        one semicolon
        step ← optional close_paren
        one close_paren
        body ← stmt
        pure (for_stmt t.line (for_head start x step) body)

      unfoldable pub return_statement : Reader Stmt
      return_statement = do
        t ← one return_word
        x ← optional semicolon
        one semicolon
        pure (return_stmt t.line x)

      unfoldable pub break_statement : Reader Stmt
      break_statement = do
        t ← one break_word
        one semicolon
        pure (break_stmt t.line)

      unfoldable pub continue_statement : Reader Stmt
      continue_statement = do
        t ← one continue_word
        one semicolon
        pure (continue_stmt t.line)

      unfoldable pub stmt_line : Reader Stmt
      stmt_line =
          choose (begins (open_brace ∷ [])) (block_stmt <$> block)
          (choose (begins (semicolon ∷ [])) ((λ t. empty_stmt t.line) <$> one semicolon)
          (choose (begins (if_word ∷ [])) if_statement
          (choose (begins (while_word ∷ [])) while_statement
          (choose (begins (do_word ∷ [])) do_statement
          (choose (begins (for_word ∷ [])) for_statement
          (choose (begins (return_word ∷ [])) return_statement
          (choose (begins (break_word ∷ [])) break_statement
          (choose (begins (continue_word ∷ [])) continue_statement expr_statement))))))))

    unfoldable pub statement_at : ℕ → Reader Stmt
    statement_at zero = stop
    statement_at (suc left) = stmt_line (statement_at left)

    -- ---- units

    -- behind the specifiers and the first declarator
    unfoldable pub function_body : List Specifier → Declarator → Reader External
    function_body ss declared = function_node ss declared <$> block (statement_at depth)

    unfoldable pub other_items : List Specifier → Declarator → Reader External
    other_items ss declared = do
      value ← given
      items ← further_items (item_node declared value ∷ [])
      pure (x.Declaration (declaration_node ss items))

    unfoldable pub external : Reader External
    external = do
      ss ← specifiers
      declared ← declarator n.Named
      choose (begins (open_brace ∷ [])) (function_body ss declared) (other_items ss declared)

    unfoldable pub unit : Reader TheUnit
    unit = grown (begins specifier_starts) push external [] >>= (λ xs. ended (unit_node xs))

-- all of the tokens, where each line may lead back as often as there are tokens
unfoldable pub unit_of : Bytes → List Token → Result (TheUnit × List Token) ℕ
unit_of src tokens =
    let depth = length tokens in unit (expr_at src depth) (declarator_at src depth) depth tokens
