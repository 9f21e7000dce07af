-- Parts of lines of the grammar of declarations, statements and units, each of which is a function of its own.
use Rattle.std.specs.Prelude.{ℕ, List, [], ◌∷◌, Option, Some, None}
use Rattle.c_tree.specs.declared.specifier.Specifier.{Specifier}
use Rattle.c_tree.specs.declared.expression.Expr.{Expr}
use Rattle.c_tree.specs.declared.expression.Declarator.{Declarator}
use Rattle.c_tree.specs.declared.declaration.Declaration.{Declaration}
use Rattle.c_tree.specs.declared.declaration.Item.{Item}
use Rattle.c_tree.specs.declared.declaration.Initializer.{Initializer}
use Rattle.c_tree.specs.declared.declaration.Initializer.TheVariants as i
use Rattle.c_tree.specs.declared.statement.Stmt.{Stmt}
use Rattle.c_tree.specs.declared.unit.External.{External}
use Rattle.c_expr.specs.declared.start.Start.{Start}
use Rattle.c_expr.specs.declared.start.Start.TheVariants as at
use Rattle.c_expr.specs.declared.start.Naming.{Naming}
use Rattle.c_expr.specs.Codes.{comma, semicolon, else_word, specifier_starts}
use Rattle.c_expr.specs.Spelling.{push}
use Rattle.c_parser.specs.StatementNodes.{item_node, declaration_node, block_stmt, empty_stmt}
use Rattle.c_expr.specs.Reading.{Reader, ◌>>=◌, ◌>>◌, ◌<$>◌, pure, one, begins, choose, grown, behind_comma}
use Rattle.c_parser.specs.ReadingUnits.{item, given, further_items, block, external}

-- `;` alone
abbrev pub empty_statement : Reader Stmt
empty_statement = (λ t. empty_stmt t.line) <$> one semicolon

module _ (expr : Start → Reader Expr) (declarator : Naming → Reader Declarator) where
  -- an initializer that is an expression
  abbrev pub value : Reader Initializer
  value = i.Value <$> expr at.Assignment

  module _ (depth : ℕ) where
    -- the items behind those before, without the `;`
    abbrev pub items_behind : List Item → Reader (List Item)
    items_behind before = grown (begins (comma ∷ [])) push (behind_comma (item expr declarator depth)) before

    -- the rest of a declaration behind its specifiers and its first declarator
    abbrev pub other_items : List Specifier → Declarator → Reader Declaration
    other_items ss declared = do
      value ← given expr declarator depth
      items ← further_items expr declarator depth (item_node declared value ∷ [])
      pure (declaration_node ss items)

    -- the externals that the tokens begin with
    abbrev pub externals : Reader (List External)
    externals = grown (begins specifier_starts) push (external expr declarator depth) []

    module _ (stmt : Reader Stmt) where
      -- perhaps `else` and a statement
      abbrev pub second_branch : Reader (Option Stmt)
      second_branch = choose (begins (else_word ∷ [])) (one else_word >> (Some <$> stmt)) (pure None)

      abbrev pub block_statement : Reader Stmt
      block_statement = block_stmt <$> block expr declarator depth stmt
