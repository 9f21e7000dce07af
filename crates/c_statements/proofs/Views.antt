-- What statements that are made of parts stand for.
use Rattle.std.proofs.Common.{◌≡◌, ℕ, List, [], ◌∷◌, ◌++◌, map, Option, Some, None, refl, ◌∙◌, ap}
use Rattle.std.specs.Prelude.{option_map}
use Rattle.std.proofs.lemmas.List.{map-append}
use Rattle.c_types.specs.declared.type_ref.Row.{Row}
use Rattle.c_types.specs.Table.{type_at, Extends}
use Rattle.c_types.proofs.Grown.{Extends-trans}
use Rattle.c_typed.specs.declared.value.Value as v
use Rattle.c_typed.specs.declared.statement.LocalItem as code_local
use Rattle.c_typed.specs.declared.statement.ForStart as code_start
use Rattle.c_typed.specs.declared.statement.ForHead.{ForHead}
use Rattle.c_typed.specs.declared.statement.Block as code_block
use Rattle.c_typed.specs.declared.statement.Stmt as code_stmt
use Rattle.c_typed.specs.declared.statement.StmtNode.TheVariants as sn
use Rattle.c_typed.specs.declared.statement.BlockItem as code_item
use Rattle.c_typed.specs.declared.statement.BlockItem.TheVariants as bi
use Rattle.c_typed.specs.Typed.{Value}
use Rattle.c_typed.specs.Statements as t
use Rattle.c_typed.specs.Views.{value_view}
use Rattle.c_typed.specs.StatementViews.{if_from, BlockView, all_items, block_view, block_item_view, stmt_view, stmt_node_view}
use Rattle.c_typed.proofs.StatementViewLaws.{view_block, view_empty, view_value, view_if_only, view_if_else, view_while, view_do, view_for, view_return, view_continue, view_break, view_stmt, view_items, view_declaration, view_statement}
use Rattle.c_values.specs.Stand.{MeansValue}
use Rattle.c_declarations.specs.Parts.{AreLocalItems}
use Rattle.c_statements.specs.Steps.{Head}
use Rattle.c_statements.specs.Parts.{MeansValueIf, IsBlock, IsStmt, IsStmtIf, IsNode, IsStart, IsHead, IsPart, AreParts}

-- ---- what stood before stands in a table that has grown

pub value_if-later : {old new : List Row} (x : Option v.Value) (w : Option Value) → Extends old new → MeansValueIf old x w → MeansValueIf new x w
value_if-later x w grown m = record { always = λ later more. m.always later (Extends-trans grown more) }

pub stmt-later : {old new : List Row} (x : code_stmt.Stmt) (s : t.Stmt) → Extends old new → IsStmt old x s → IsStmt new x s
stmt-later x s grown m = record { always = λ later more. m.always later (Extends-trans grown more) }

pub start-later : {old new : List Row} (x : code_start.ForStart) (s : t.ForStart) → Extends old new → IsStart old x s → IsStart new x s
start-later x s grown m = record { always = λ later more. m.always later (Extends-trans grown more) }

pub head-later : {old new : List Row} (x : ForHead) (h : Head) → Extends old new → IsHead old x h → IsHead new x h
head-later x h grown m = record {
  start = start-later x.start h.start grown m.start;
  test = value_if-later x.test h.test grown m.test;
  step = value_if-later x.step h.step grown m.step;
}

pub parts-later : {old new : List Row} (xs : List code_item.BlockItem) (fs : List (t.Items → t.Items)) → Extends old new → AreParts old xs fs → AreParts new xs fs
parts-later xs fs grown m = record { always = λ later more. m.always later (Extends-trans grown more) }

-- ---- nodes

pub some-value : (rows : List Row) (x : v.Value) (w : Value) → MeansValue rows x w → MeansValueIf rows (Some x) (Some w)
some-value rows x w m = record { always = λ later more. ap Some (m.always later more) }

pub some-stmt : (rows : List Row) (x : code_stmt.Stmt) (s : t.Stmt) → IsStmt rows x s → IsStmtIf rows (Some x) (Some s)
some-stmt rows x s m = record { always = λ later more. ap Some (m.always later more) }

pub is-empty : (line : ℕ) (rows : List Row) → IsNode line rows sn.Empty (t.empty line)
is-empty line rows = record { always = λ later more. view_empty (type_at later) line }

pub is-continue : (line : ℕ) (rows : List Row) → IsNode line rows sn.Continue (t.continue line)
is-continue line rows = record { always = λ later more. view_continue (type_at later) line }

pub is-break : (line : ℕ) (rows : List Row) → IsNode line rows sn.Break (t.break line)
is-break line rows = record { always = λ later more. view_break (type_at later) line }

pub is-value : (line : ℕ) (rows : List Row) (x : v.Value) (w : Value) → MeansValue rows x w → IsNode line rows (sn.Value x) (t.expression line w)
is-value line rows x w m = record { always = λ later more. view_value (type_at later) x line ∙ ap (t.expression line) (m.always later more) }

pub is-return : (line : ℕ) (rows : List Row) (x : Option v.Value) (w : Option Value) → MeansValueIf rows x w → IsNode line rows (sn.Return x) (t.return line w)
is-return line rows x w m = record { always = λ later more. view_return (type_at later) x line ∙ ap (t.return line) (m.always later more) }

pub is-while : (line : ℕ) (rows : List Row) (x : v.Value) (s : code_stmt.Stmt) (w : Value) (body : t.Stmt)
    → MeansValue rows x w → IsStmt rows s body → IsNode line rows (sn.While x s) (t.while line w body)
is-while line rows x s w body m b =
    record { always = λ later more. view_while (type_at later) x s line ∙ (λ i. t.while line (m.always later more i) (b.always later more i)) }

pub is-do : (line : ℕ) (rows : List Row) (s : code_stmt.Stmt) (x : v.Value) (body : t.Stmt) (w : Value)
    → IsStmt rows s body → MeansValue rows x w → IsNode line rows (sn.Do s x) (t.do_while line body w)
is-do line rows s x body w b m =
    record { always = λ later more. view_do (type_at later) s x line ∙ (λ i. t.do_while line (b.always later more i) (m.always later more i)) }

pub is-for : (line : ℕ) (rows : List Row) (h : ForHead) (s : code_stmt.Stmt) (head : Head) (body : t.Stmt)
    → IsHead rows h head → IsStmt rows s body → IsNode line rows (sn.For h s) (t.for line head.start head.test head.step body)
is-for line rows h s head body m b = record {
  always = λ later more.
      view_for (type_at later) h s line
      ∙ (λ i. t.for line (m.start.always later more i) (m.test.always later more i) (m.step.always later more i) (b.always later more i));
}

-- `if` with or without a branch behind `else`
view_if : (rows : List Row) (line : ℕ) (x : v.Value) (s : code_stmt.Stmt) (u : Option code_stmt.Stmt)
    → stmt_node_view (type_at rows) (sn.If x s u) line ≡ if_from line (value_view (type_at rows) x) (stmt_view (type_at rows) s) (option_map (stmt_view (type_at rows)) u)
view_if rows line x s None = view_if_only (type_at rows) x s line
view_if rows line x s (Some u) = view_if_else (type_at rows) x s u line

pub is-if : (line : ℕ) (rows : List Row) (x : v.Value) (s : code_stmt.Stmt) (u : Option code_stmt.Stmt) (w : Value) (first : t.Stmt) (second : Option t.Stmt)
    → MeansValue rows x w → IsStmt rows s first → IsStmtIf rows u second → IsNode line rows (sn.If x s u) (if_from line w first second)
is-if line rows x s u w first second m b c = record {
  always = λ later more.
      view_if later line x s u ∙ (λ i. if_from line (m.always later more i) (b.always later more i) (c.always later more i));
}

pub is-block : (line : ℕ) (rows : List Row) (b : code_block.Block) (begin end : ℕ) (items : t.Items)
    → IsBlock begin end rows b items → IsNode line rows (sn.Block b) (t.block begin items end)
is-block line rows b begin end items m = record {
  always = λ later more. view_block (type_at later) b line ∙ ap (λ (x : BlockView). t.block x.line x.items x.end) (m.always later more);
}

-- ---- parts of blocks

pub is-declaration : (rows : List Row) (xs : List code_local.LocalItem) (ls : List t.LocalItem) → AreLocalItems rows xs ls → IsPart rows (bi.Declaration xs) (t.declaration ls)
is-declaration rows xs ls m = record {
  always = λ later more i rest. (view_declaration (type_at later) xs rest ∙ ap (λ l. t.declaration l rest) (m.always later more)) i;
}

pub is-statement : (rows : List Row) (x : code_stmt.Stmt) (s : t.Stmt) → IsStmt rows x s → IsPart rows (bi.Statement x) (t.statement s)
is-statement rows x s m = record {
  always = λ later more i rest. (view_statement (type_at later) x rest ∙ ap (λ l. t.statement l rest) (m.always later more)) i;
}

pub parts-snoc : (rows : List Row) (xs : List code_item.BlockItem) (x : code_item.BlockItem) (fs : List (t.Items → t.Items)) (f : t.Items → t.Items)
    → AreParts rows xs fs → IsPart rows x f → AreParts rows (xs ++ x ∷ []) (fs ++ f ∷ [])
parts-snoc rows xs x fs f m n = record {
  always = λ later more. map-append (block_item_view (type_at later)) xs (x ∷ []) ∙ (λ i. m.always later more i ++ n.always later more i ∷ []);
}

pub no-parts : (rows : List Row) → AreParts rows [] []
no-parts rows = record { always = λ later more. refl }

-- ---- whole statements and blocks

pub is-stmt : (rows : List Row) (x : code_stmt.Stmt) (s : t.Stmt) → IsNode x.line rows x.node s → IsStmt rows x s
is-stmt rows x s m = record { always = λ later more. view_stmt (type_at later) x ∙ m.always later more }

code-block : (rows : List Row) (b : code_block.Block)
    → block_view (type_at rows) b ≡ record { line = b.line; items = all_items (map (block_item_view (type_at rows)) b.items); end = b.end }
code-block rows b =
    ap (block_view (type_at rows)) (code_block.rolls-Block' (record { line = b.line; items = b.items; end = b.end })) ∙ view_items (type_at rows) b.line b.items b.end

pub is-whole : (rows : List Row) (b : code_block.Block) (line end : ℕ) (fs : List (t.Items → t.Items)) → AreParts rows b.items fs → b.line ≡ line → b.end ≡ end
    → IsBlock line end rows b (all_items fs)
is-whole rows b line end fs m begin stop = record {
  always = λ later more. code-block later b ∙ (λ i. record { line = begin i; items = all_items (m.always later more i); end = stop i });
}

pub block-later : {old new : List Row} (line end : ℕ) (x : code_block.Block) (items : t.Items) → Extends old new → IsBlock line end old x items → IsBlock line end new x items
block-later line end x items grown m = record { always = λ later more. m.always later (Extends-trans grown more) }
