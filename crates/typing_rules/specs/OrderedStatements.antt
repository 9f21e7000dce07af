-- The ordered function on statements.
use Rattle.std.specs.Prelude.{ℕ, Bool as Test, true, Option, Some, None}
use Rattle.c_types.specs.Types.{CType, is_void}
use Rattle.c_types.specs.Rules.{tested_type, conversion_form}
use Rattle.c_typed.specs.Typed.{Value}
use Rattle.c_typed.specs.Statements as t
use Rattle.typing_rules.specs.declared.refusal.TypeRefusal.TheVariants.{Mismatch}
use Rattle.typing_rules.specs.Source.{Expr}
use Rattle.typing_rules.specs.SourceUnits.{ForStart, starts, declares, Stmt, block, empty, expression, if_only, if_else, while, do_while, for, continue, break, return, Items, no_items, declaration, statement}
use Rattle.typing_rules.specs.Known as known
use Rattle.typing_rules.specs.Terms.{operand_of, written_type, converted_by}
use Rattle.typing_rules.specs.Checking.{Checking, ◌>>=◌, ◌>>◌, pure, refuse, makes, choose, needs, ruled_by}
use Rattle.typing_rules.specs.OrderedDeclarations.{value_of, declared_in_block}

-- the condition of a statement with a word on a line
abbrev pub condition : ℕ → Expr → Checking Value
condition line e = do
  a ← value_of e
  ruled_by line (tested_type (written_type a))
  pure a.value

abbrev pub condition_if : ℕ → Option Expr → Checking (Option Value)
condition_if line None = pure None
condition_if line (Some e) = do
  v ← condition line e
  pure (Some v)

abbrev pub value_if : Option Expr → Checking (Option Value)
value_if None = pure None
value_if (Some e) = do
  a ← value_of e
  pure (Some a.value)

-- `return` in a function with a result type (C11 6.8.6.4)
abbrev pub returned : ℕ → CType → Option Expr → Checking (Option Value)
returned line result None = do
  needs (is_void result) (Mismatch line 19)
  pure None
returned line result (Some e) = do
  a ← value_of e
  choose (is_void result) (refuse (Mismatch line 19)) (do
    form ← ruled_by line (conversion_form result (operand_of a.value))
    pure (Some (converted_by form result a)))

-- what a `for` does first; a declaration has a scope of its own, which holds the loop too (C11 6.8.5p5)
abbrev pub for_start : ForStart → Checking t.ForStart
for_start (starts e) = do
  first ← value_if e
  pure (t.starts first)
for_start (declares d) = do
  makes known.opened
  locals ← declared_in_block d
  pure (t.declares locals)

abbrev pub for_end : ForStart → Checking (Unit {0})
for_end (starts e) = pure tt
for_end (declares d) = makes known.closed

unfoldable mutual
  -- a statement of a function with a result type, inside a loop or not
  pub stmt_of : CType → Test → Stmt → Checking t.Stmt
  stmt_of result in_loop (block line items end) = do
    makes known.opened
    parts ← items_of result in_loop items
    makes known.closed
    pure (t.block line parts end)
  stmt_of result in_loop (empty line) = pure (t.empty line)
  stmt_of result in_loop (expression line e) = do
    a ← value_of e
    pure (t.expression line a.value)
  stmt_of result in_loop (if_only line e s) = do
    test ← condition line e
    first ← stmt_of result in_loop s
    pure (t.if_only line test first)
  stmt_of result in_loop (if_else line e s u) = do
    test ← condition line e
    first ← stmt_of result in_loop s
    second ← stmt_of result in_loop u
    pure (t.if_else line test first second)
  stmt_of result in_loop (while line e s) = do
    test ← condition line e
    body ← stmt_of result true s
    pure (t.while line test body)
  stmt_of result in_loop (do_while line s e) = do
    body ← stmt_of result true s
    test ← condition line e
    pure (t.do_while line body test)
  stmt_of result in_loop (for line start e u s) = do
    first ← for_start start
    test ← condition_if line e
    step ← value_if u
    body ← stmt_of result true s
    for_end start
    pure (t.for line first test step body)
  stmt_of result in_loop (continue line) = do
    needs in_loop (Mismatch line 18)
    pure (t.continue line)
  stmt_of result in_loop (break line) = do
    needs in_loop (Mismatch line 18)
    pure (t.break line)
  stmt_of result in_loop (return line e) = do
    v ← returned line result e
    pure (t.return line v)

  pub items_of : CType → Test → Items → Checking t.Items
  items_of result in_loop no_items = pure t.no_items
  items_of result in_loop (declaration d rest) = do
    locals ← declared_in_block d
    others ← items_of result in_loop rest
    pure (t.declaration locals others)
  items_of result in_loop (statement s rest) = do
    first ← stmt_of result in_loop s
    others ← items_of result in_loop rest
    pure (t.statement first others)
