-- How many tokens the trees of a file have at least: declarators, names of types, parentheses, braces, commas and the words
-- of statements count for nothing.
use Rattle.std.specs.Prelude.{ℕ, ◌+◌, ◌≤◌, List, [], ◌∷◌, Option, Some, None}
use Rattle.typing_rules.specs.Source.{Expr, at, name, number, character, text, parenthesized, index, call, prefix, postfix, sizeof_expr, sizeof_type, cast, binary, conjunction, disjunction, choice, assignment, compound, comma, Exprs, no_exprs, first_expr}
use Rattle.typing_rules.specs.SourceUnits.{Initial, single, braced, Initials, no_initials, first_initial, Item, Declaration, ForStart, starts, declares, Stmt, block, empty, expression, if_only, if_else, while, do_while, for, continue, break, return, Items, no_items, declaration, statement, External, function, declaration_of, Unit as SourceUnit}
use Rattle.typing_rules.specs.Laws.{Each}
use Rattle.typing_laws.specs.LanguagePrograms.{IfThere}

-- ---- expressions: a token for each name, constant, text and operator, as which `[` and the `(` of a call count too

unfoldable mutual
  pub tokens_of : Expr → ℕ
  tokens_of (at line (name bytes)) = 1
  tokens_of (at line (number ty n)) = 1
  tokens_of (at line (character n)) = 1
  tokens_of (at line (text bytes)) = 1
  tokens_of (at line (parenthesized e)) = tokens_of e
  tokens_of (at line (index e where_to i)) = 1 + (tokens_of e + tokens_of i)
  tokens_of (at line (call f where_to es)) = 1 + (tokens_of f + tokens_in es)
  tokens_of (at line (prefix op e)) = 1 + tokens_of e
  tokens_of (at line (postfix op where_to e)) = 1 + tokens_of e
  tokens_of (at line (sizeof_expr e)) = 1 + tokens_of e
  tokens_of (at line (sizeof_type t)) = 1
  tokens_of (at line (cast t e)) = 1 + tokens_of e
  tokens_of (at line (binary op where_to e f)) = 1 + (tokens_of e + tokens_of f)
  tokens_of (at line (conjunction where_to e f)) = 1 + (tokens_of e + tokens_of f)
  tokens_of (at line (disjunction where_to e f)) = 1 + (tokens_of e + tokens_of f)
  tokens_of (at line (choice where_to c e f)) = 1 + (tokens_of c + (tokens_of e + tokens_of f))
  tokens_of (at line (assignment where_to e f)) = 1 + (tokens_of e + tokens_of f)
  tokens_of (at line (compound op where_to e f)) = 1 + (tokens_of e + tokens_of f)
  tokens_of (at line (comma es e)) = tokens_in es + tokens_of e

  pub tokens_in : Exprs → ℕ
  tokens_in no_exprs = 0
  tokens_in (first_expr e es) = tokens_of e + tokens_in es

abbrev pub tokens_if : Option Expr → ℕ
tokens_if None = 0
tokens_if (Some e) = tokens_of e

-- ---- initializers and declarations: a token for each name that is declared

unfoldable mutual
  pub tokens_of_initial : Initial → ℕ
  tokens_of_initial (single e) = tokens_of e
  tokens_of_initial (braced line items) = tokens_of_initials items

  pub tokens_of_initials : Initials → ℕ
  tokens_of_initials no_initials = 0
  tokens_of_initials (first_initial x rest) = tokens_of_initial x + tokens_of_initials rest

abbrev pub tokens_of_initial_if : Option Initial → ℕ
tokens_of_initial_if None = 0
tokens_of_initial_if (Some x) = tokens_of_initial x

abbrev pub tokens_of_item : Item → ℕ
tokens_of_item x = 1 + tokens_of_initial_if x.initial

abbrev pub tokens_of_declared : List Item → ℕ
tokens_of_declared [] = 0
tokens_of_declared (x ∷ rest) = tokens_of_item x + tokens_of_declared rest

abbrev pub tokens_of_declaration : Declaration → ℕ
tokens_of_declaration d = tokens_of_declared d.items

-- ---- statements

abbrev pub tokens_first : ForStart → ℕ
tokens_first (starts e) = tokens_if e
tokens_first (declares d) = tokens_of_declaration d

unfoldable mutual
  pub tokens_of_statement : Stmt → ℕ
  tokens_of_statement (block line items end) = tokens_of_items items
  tokens_of_statement (empty line) = 0
  tokens_of_statement (expression line e) = tokens_of e
  tokens_of_statement (if_only line e s) = tokens_of e + tokens_of_statement s
  tokens_of_statement (if_else line e s u) = tokens_of e + (tokens_of_statement s + tokens_of_statement u)
  tokens_of_statement (while line e s) = tokens_of e + tokens_of_statement s
  tokens_of_statement (do_while line s e) = tokens_of_statement s + tokens_of e
  tokens_of_statement (for line start e u s) = tokens_first start + (tokens_if e + (tokens_if u + tokens_of_statement s))
  tokens_of_statement (continue line) = 0
  tokens_of_statement (break line) = 0
  tokens_of_statement (return line e) = tokens_if e

  pub tokens_of_items : Items → ℕ
  tokens_of_items no_items = 0
  tokens_of_items (declaration d rest) = tokens_of_declaration d + tokens_of_items rest
  tokens_of_items (statement s rest) = tokens_of_statement s + tokens_of_items rest

-- ---- files

-- a function whose body has at most so many tokens
abbrev pub ExternalIsShort : ℕ → External → Type 0
ExternalIsShort bound (function d) = tokens_of_items d.body ≤ bound
ExternalIsShort bound (declaration_of d) = Unit {0}

abbrev pub AreShort : ℕ → SourceUnit → Type 0
AreShort bound unit = Each (ExternalIsShort bound) unit

-- of the main file, and of the binary file if it is there
abbrev pub HaveShort : ℕ → SourceUnit → Option SourceUnit → Type 0
HaveShort bound main other = AreShort bound main × IfThere (AreShort bound) other
