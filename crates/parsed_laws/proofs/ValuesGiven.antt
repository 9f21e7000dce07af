-- Each expression and each call of a program that is parsed of bytes gives a value, and its runs start with values.
use Rattle.std.proofs.Common.{◌≡◌, ℕ, List, [], ◌∷◌, Option, Some, None}
use Rattle.srmt_base.specs.declared.limits.Limits.{Limits}
use Rattle.c_typed.specs.Typed.{Value}
use Rattle.c_typed.specs.Statements.{Cell, Initializer, scalar, cells, LocalItem, ForStart, starts, declares, Stmt, block, empty, expression, if_only, if_else, while, do_while, for, continue, break, return, Items, no_items, declaration, statement, Function, Program}
use Rattle.source_meaning.specs.Sound.{CanRun}
use Rattle.source_meaning.specs.Values.{IsValue, AreValues, HoldsValues, Makes, HasValues, MayHaveValues, HaveCells, HasInitial, HaveInitials, HasStart, HasStatement, HasItems}
use Rattle.source_meaning.specs.Places.{function_at}
use Rattle.source_meaning.specs.Expressions.{value_of}
use Rattle.source_meaning.specs.Calls.{setting_of, calls}
use Rattle.source_meaning.specs.Start.{started}
use Rattle.source_meaning.proofs.ValueExpressions.{value_makes}
use Rattle.source_meaning.proofs.ValueStatements.{calls_make}
use Rattle.source_meaning.proofs.ValueStart.{starts_with_values}
use Rattle.typing_rules.specs.Laws.{Each}
use Rattle.typing_laws.specs.LanguagePrograms.{IfThere}
use Rattle.parsed_laws.specs.EachExpression.{EachInInitializer, EachInLocals, EachInStart, EachInStatement, EachInItems}

-- ---- what holds of each expression whose constants are values holds of each in a body whose constants are values

module _ (Such : Value → Type 0) (such : (e : Value) → HasValues e → Such e) where
  if_such : (e : Option Value) → MayHaveValues e → IfThere Such e
  if_such None h = tt
  if_such (Some e) h = such e h

  cells_such : (given : List Cell) → HaveCells given → Each (λ c. Such c.value) given
  cells_such [] h = tt
  cells_such (c ∷ rest) h = (such c.value h.0, cells_such rest h.1)

  initial_such : (x : Option Initializer) → HasInitial x → IfThere (EachInInitializer Such) x
  initial_such None h = tt
  initial_such (Some (scalar e)) h = such e h
  initial_such (Some (cells given)) h = cells_such given h

  locals_such : (locals : List LocalItem) → HaveInitials locals → EachInLocals Such locals
  locals_such [] h = tt
  locals_such (l ∷ rest) h = (initial_such l.initializer h.0, locals_such rest h.1)

  start_such : (first : ForStart) → HasStart first → EachInStart Such first
  start_such (starts first) h = if_such first h
  start_such (declares locals) h = locals_such locals h

  mutual
    unfolding HasStatement EachInStatement

    statement_such : (s : Stmt) → HasStatement s → EachInStatement Such s
    statement_such (block line items end) h = items_such items h
    statement_such (empty line) h = tt
    statement_such (expression line e) h = such e h
    statement_such (if_only line e a) h = (such e h.0, statement_such a h.1)
    statement_such (if_else line e a b) h = (such e h.0, statement_such a h.1, statement_such b h.2)
    statement_such (while line e a) h = (such e h.0, statement_such a h.1)
    statement_such (do_while line a e) h = (statement_such a h.0, such e h.1)
    statement_such (for line first e step a) h = (start_such first h.0, if_such e h.1, if_such step h.2, statement_such a h.3)
    statement_such (continue line) h = tt
    statement_such (break line) h = tt
    statement_such (return line e) h = if_such e h

    items_such : (items : Items) → HasItems items → EachInItems Such items
    items_such no_items h = tt
    items_such (declaration locals rest) h = (locals_such locals h.0, items_such rest h.1)
    items_such (statement first rest) h = (statement_such first h.0, items_such rest h.1)

-- ---- programs that can run

module _ (program : Program) (runs : CanRun program) where
  pub start_holds : (input : List ℕ) (limits : Limits) → AreValues input → HoldsValues (started program input limits)
  start_holds input limits h = starts_with_values program input limits runs.main_file.starts runs.binary_file.starts h

  pub calls_give : (most line number : ℕ) (arguments : List ℕ) → AreValues arguments → Makes IsValue (calls program most line number arguments)
  calls_give most line number arguments h = calls_make program runs.values most line number arguments h

  pub expressions_give : (most number : ℕ) (f : Function) → function_at program number ≡ Some f
      → EachInItems (λ e. Makes IsValue (value_of (setting_of program number f (calls program most)) e)) f.body
  expressions_give most number f at =
      items_such (λ e. Makes IsValue (value_of (setting_of program number f (calls program most)) e))
      (λ e h. value_makes (setting_of program number f (calls program most)) runs.values.names (calls_give most) e h) f.body
      (runs.values.bodies number f at)
