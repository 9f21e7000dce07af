-- A run has few events.
use Rattle.std.specs.Prelude.{◌≡◌, ℕ, ◌+◌, ◌^◌, ◌<◌, ◌≤◌, List, [], ◌∷◌, Option, Some, None, length}
use Rattle.srmt_base.specs.declared.limits.Limits.{Limits}
use Rattle.c_typed.specs.Typed.{Place, place, local, static, text, pointed, element, Value, value, constant, null, read, first_element, address, function, minus, complement, negation, arithmetic, sum, difference, comparison, conjunction, disjunction, choice, sequence, assignment, update, move, conversion, to_bool, requalified, discarded, call, call_through, putchar, getchar, exit, Values, no_values, first_value}
use Rattle.c_typed.specs.Statements.{Cell, Initializer, scalar, cells, LocalItem, ForStart, starts, declares, Stmt, block, empty, expression, if_only, if_else, while, do_while, for, continue, break, return, Items, no_items, declaration, statement, Function, Program}
use Rattle.source_meaning.specs.Places.{function_at}
use Rattle.source_meaning.specs.Start.{means}

-- how many events an expression gives at most, those of the functions that it calls left out
unfoldable mutual
  pub events_of : Value → ℕ
  events_of (value line t (constant n)) = 0
  events_of (value line t null) = 0
  events_of (value line t (read p)) = events_at p + 1
  events_of (value line t (first_element p)) = events_at p
  events_of (value line t (address p)) = events_at p
  events_of (value line t (function n)) = 0
  events_of (value line t (minus e)) = events_of e
  events_of (value line t (complement e)) = events_of e
  events_of (value line t (negation e)) = events_of e
  events_of (value line t (arithmetic op at a b)) = events_of a + events_of b
  events_of (value line t (sum at is_less pointer_first a b)) = events_of a + events_of b
  events_of (value line t (difference at a b)) = events_of a + events_of b
  events_of (value line t (comparison op at a b)) = events_of a + events_of b
  events_of (value line t (conjunction a b)) = events_of a + events_of b
  events_of (value line t (disjunction a b)) = events_of a + events_of b
  events_of (value line t (choice e a b)) = events_of e + (events_of a + events_of b)
  events_of (value line t (sequence dropped last)) = events_in dropped + events_of last
  events_of (value line t (assignment p e)) = events_at p + (events_of e + 1)
  events_of (value line t (update is_after p first op at ty e)) = events_at p + (1 + (events_of e + 1))
  events_of (value line t (move is_after p is_less at e)) = events_at p + (1 + (events_of e + 1))
  events_of (value line t (conversion first e)) = events_of e
  events_of (value line t (to_bool first e)) = events_of e
  events_of (value line t (requalified e)) = events_of e
  events_of (value line t (discarded e)) = events_of e
  events_of (value line t (call at n es)) = events_in es
  events_of (value line t (call_through at e es)) = events_of e + events_in es
  events_of (value line t (putchar at e)) = events_of e + 1
  events_of (value line t (getchar at)) = 0
  events_of (value line t (exit at e)) = events_of e + 1

  pub events_at : Place → ℕ
  events_at (place line t (local n)) = 0
  events_at (place line t (static n)) = 0
  events_at (place line t (text n)) = 0
  events_at (place line t (pointed e)) = events_of e
  events_at (place line t (element at pointer_first a b)) = events_of a + events_of b

  pub events_in : Values → ℕ
  events_in no_values = 0
  events_in (first_value e es) = events_of e + events_in es

abbrev pub events_if : Option Value → ℕ
events_if None = 0
events_if (Some e) = events_of e

abbrev pub events_of_cells : List Cell → ℕ
events_of_cells [] = 0
events_of_cells (c ∷ rest) = events_of c.value + events_of_cells rest

abbrev pub events_of_initial : Option Initializer → ℕ
events_of_initial None = 0
events_of_initial (Some (scalar e)) = events_of e + 1
events_of_initial (Some (cells given)) = events_of_cells given

abbrev pub events_of_locals : List LocalItem → ℕ
events_of_locals [] = 0
events_of_locals (l ∷ rest) = events_of_initial l.initializer + events_of_locals rest

abbrev pub events_first : ForStart → ℕ
events_first (starts first) = events_if first
events_first (declares locals) = events_of_locals locals

-- the same of a statement, with one round of each loop
unfoldable mutual
  pub events_of_statement : Stmt → ℕ
  events_of_statement (block line items end) = events_of_items items
  events_of_statement (empty line) = 0
  events_of_statement (expression line e) = events_of e
  events_of_statement (if_only line e a) = events_of e + events_of_statement a
  events_of_statement (if_else line e a b) = events_of e + (events_of_statement a + events_of_statement b)
  events_of_statement (while line e a) = events_of e + events_of_statement a
  events_of_statement (do_while line a e) = events_of_statement a + events_of e
  events_of_statement (for line first e step a) = events_first first + (events_if e + (events_of_statement a + events_if step))
  events_of_statement (continue line) = 0
  events_of_statement (break line) = 0
  events_of_statement (return line e) = events_if e

  pub events_of_items : Items → ℕ
  events_of_items no_items = 0
  events_of_items (declaration locals rest) = events_of_locals locals + events_of_items rest
  events_of_items (statement first rest) = events_of_statement first + events_of_items rest

-- each function has fewer than a source has bytes
abbrev pub HasShortFunctions : Program → Type 0
HasShortFunctions program = (number : ℕ) (f : Function) → function_at program number ≡ Some f → events_of_items f.body ≤ 1048576

-- fewer than 2^62 events in a run with fitting turns
abbrev pub HasFewEvents : Program → List ℕ → Limits → Type 0
HasFewEvents program input limits = HasShortFunctions program → limits.turns ≤ 10 ^ 12 → length (means program input limits).events < 2 ^ 62
