-- That each expression that stands in a body by itself is such: those that a statement or an initializer evaluates, and
-- none of their operands.
use Rattle.std.specs.Prelude.{List}
use Rattle.c_typed.specs.Typed.{Value}
use Rattle.c_typed.specs.Statements.{Initializer, scalar, cells, LocalItem, ForStart, starts, declares, Stmt, block, empty, expression, if_only, if_else, while, do_while, for, continue, break, return, Items, no_items, declaration, statement}
use Rattle.typing_rules.specs.Laws.{Each}
use Rattle.typing_laws.specs.LanguagePrograms.{IfThere}

module _ (Such : Value → Type 0) where
  abbrev pub EachInInitializer : Initializer → Type 0
  EachInInitializer (scalar e) = Such e
  EachInInitializer (cells given) = Each (λ c. Such c.value) given

  abbrev pub EachInLocals : List LocalItem → Type 0
  EachInLocals locals = Each (λ l. IfThere EachInInitializer l.initializer) locals

  abbrev pub EachInStart : ForStart → Type 0
  EachInStart (starts first) = IfThere Such first
  EachInStart (declares locals) = EachInLocals locals

  unfoldable mutual
    pub EachInStatement : Stmt → Type 0
    EachInStatement (block line items end) = EachInItems items
    EachInStatement (empty line) = Unit {0}
    EachInStatement (expression line e) = Such e
    EachInStatement (if_only line e a) = Such e × EachInStatement a
    EachInStatement (if_else line e a b) = Such e × EachInStatement a × EachInStatement b
    EachInStatement (while line e a) = Such e × EachInStatement a
    EachInStatement (do_while line a e) = EachInStatement a × Such e
    EachInStatement (for line first e step a) = EachInStart first × IfThere Such e × IfThere Such step × EachInStatement a
    EachInStatement (continue line) = Unit {0}
    EachInStatement (break line) = Unit {0}
    EachInStatement (return line e) = IfThere Such e

    pub EachInItems : Items → Type 0
    EachInItems no_items = Unit {0}
    EachInItems (declaration locals rest) = EachInLocals locals × EachInItems rest
    EachInItems (statement first rest) = EachInStatement first × EachInItems rest
