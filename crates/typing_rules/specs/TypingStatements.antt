-- The typing relation on statements (C11 6.8): a case for each construct.
use Rattle.std.specs.Prelude.{Bool as Test, true, Option, Some, None, IsTrue, IsFalse}
use Rattle.c_types.specs.Types.{CType, is_void}
use Rattle.c_typed.specs.Typed.{Value}
use Rattle.c_typed.specs.Statements as t
use Rattle.typing_rules.specs.Source.{Expr}
use Rattle.typing_rules.specs.SourceUnits.{ForStart, starts, declares, Stmt, block, empty, expression, if_only, if_else, while, do_while, for, continue, break, return, Items, no_items, declaration, statement}
use Rattle.typing_rules.specs.Known as known
use Rattle.typing_rules.specs.Terms.{operand_of, written_type, converted_by}
use Rattle.typing_rules.specs.Constraints.{IsTested, Converts}
use Rattle.typing_rules.specs.Holding.{Typing, ◌>>=◌, ◌>>◌, Is, Such, Given, Makes}
use Rattle.typing_rules.specs.TypingDeclarations.{IsValueOf, IsDeclaredInBlock}

-- a condition has scalar type (C11 6.8.4.1p1, 6.8.5p2)
abbrev pub IsCondition : Expr → Typing Value
IsCondition e = do
  a ← IsValueOf e
  Such (IsTested (written_type a))
  Is a.value

abbrev pub IsConditionIf : Option Expr → Typing (Option Value)
IsConditionIf None = Is None
IsConditionIf (Some e) = do
  v ← IsCondition e
  Is (Some v)

abbrev pub IsValueIf : Option Expr → Typing (Option Value)
IsValueIf None = Is None
IsValueIf (Some e) = do
  a ← IsValueOf e
  Is (Some a.value)

-- a value is returned exactly where the result has a type, and is converted to it as by assignment (C11 6.8.6.4)
abbrev pub IsReturned : CType → Option Expr → Typing (Option Value)
IsReturned result None = do
  Given (IsTrue (is_void result))
  Is None
IsReturned result (Some e) = do
  a ← IsValueOf e
  Given (IsFalse (is_void result))
  form ← Such (Converts result (operand_of a.value))
  Is (Some (converted_by form result a))

-- a declaration before a loop is in a scope that holds the loop (C11 6.8.5p5, 6.8.5.3)
abbrev pub IsForStart : ForStart → Typing t.ForStart
IsForStart (starts e) = do
  first ← IsValueIf e
  Is (t.starts first)
IsForStart (declares d) = do
  Makes known.opened
  locals ← IsDeclaredInBlock d
  Is (t.declares locals)

abbrev pub IsForEnd : ForStart → Typing (Unit {0})
IsForEnd (starts e) = Is tt
IsForEnd (declares d) = Makes known.closed

unfoldable mutual
  pub IsStmt : CType → Test → Stmt → Typing t.Stmt
  -- a block is a scope (C11 6.8.2, 6.2.1p4)
  IsStmt result in_loop (block line items end) = do
    Makes known.opened
    parts ← AreItems result in_loop items
    Makes known.closed
    Is (t.block line parts end)
  IsStmt result in_loop (empty line) = Is (t.empty line)
  IsStmt result in_loop (expression line e) = do
    a ← IsValueOf e
    Is (t.expression line a.value)
  IsStmt result in_loop (if_only line e s) = do
    test ← IsCondition e
    first ← IsStmt result in_loop s
    Is (t.if_only line test first)
  IsStmt result in_loop (if_else line e s u) = do
    test ← IsCondition e
    first ← IsStmt result in_loop s
    second ← IsStmt result in_loop u
    Is (t.if_else line test first second)
  IsStmt result in_loop (while line e s) = do
    test ← IsCondition e
    body ← IsStmt result true s
    Is (t.while line test body)
  IsStmt result in_loop (do_while line s e) = do
    body ← IsStmt result true s
    test ← IsCondition e
    Is (t.do_while line body test)
  IsStmt result in_loop (for line start e u s) = do
    first ← IsForStart start
    test ← IsConditionIf e
    step ← IsValueIf u
    body ← IsStmt result true s
    IsForEnd start
    Is (t.for line first test step body)
  -- only in a loop (C11 6.8.6.2p1, 6.8.6.3p1)
  IsStmt result in_loop (continue line) = do
    Given (IsTrue in_loop)
    Is (t.continue line)
  IsStmt result in_loop (break line) = do
    Given (IsTrue in_loop)
    Is (t.break line)
  IsStmt result in_loop (return line e) = do
    v ← IsReturned result e
    Is (t.return line v)

  pub AreItems : CType → Test → Items → Typing t.Items
  AreItems result in_loop no_items = Is t.no_items
  AreItems result in_loop (declaration d rest) = do
    locals ← IsDeclaredInBlock d
    others ← AreItems result in_loop rest
    Is (t.declaration locals others)
  AreItems result in_loop (statement s rest) = do
    first ← IsStmt result in_loop s
    others ← AreItems result in_loop rest
    Is (t.statement first others)
