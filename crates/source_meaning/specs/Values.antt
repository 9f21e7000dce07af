-- Every value is a number of 44 bits.
use Rattle.std.specs.Prelude.{◌≡◌, ℕ, ◌^◌, ◌<◌, ◌≤◌, List, length, [], ◌∷◌, Option, Some, None}
use Rattle.srmt_base.specs.declared.limits.Limits.{Limits}
use Rattle.srmt_base.specs.declared.part.Part.{Part}
use Rattle.srmt_base.specs.declared.part.Part.TheVariants.{Protected, Binary}
use Rattle.srmt_base.specs.Objects.{Object}
use Rattle.c_typed.specs.declared.program.StartCell.{StartCell}
use Rattle.c_typed.specs.Typed.{Place, place, local, static, text, pointed, element, Value, value, constant, null, read, first_element, address, function, minus, complement, negation, arithmetic, sum, difference, comparison, conjunction, disjunction, choice, sequence, assignment, update, move, conversion, to_bool, requalified, discarded, call, call_through, putchar, getchar, exit, Values, no_values, first_value}
use Rattle.c_typed.specs.Statements.{Cell, Initializer, scalar, cells, LocalItem, ForStart, starts, declares, Stmt, block, empty, expression, if_only, if_else, while, do_while, for, continue, break, return, Items, no_items, declaration, statement, Function, Program, Static}
use Rattle.source_meaning.specs.World.{World, Outcome, Gives, Ends, Doing}
use Rattle.source_meaning.specs.Places.{Setting, function_at, value_of_entity}
use Rattle.source_meaning.specs.Expressions.{value_of}
use Rattle.source_meaning.specs.Calls.{calls}
use Rattle.source_meaning.specs.Start.{start_value, started}

abbrev pub IsValue : ℕ → Type 0
IsValue v = v < 2 ^ 44

abbrev pub AreValues : List ℕ → Type 0
AreValues [] = Unit {0}
AreValues (v ∷ vs) = IsValue v × AreValues vs

abbrev pub HoldValues : List Object → Type 0
HoldValues [] = Unit {0}
HoldValues (o ∷ os) = AreValues o.cells × HoldValues os

-- all that the world stores
pub record HoldsValues (w : World) : Type 0 where
  pub protected : HoldValues w.memory.protected.live
  pub binary : HoldValues w.memory.binary.live
  pub input : AreValues w.input
  pub locals : AreValues w.locals

-- what is given has a property, and the world after it holds values
abbrev pub GivesSuch : {A : Type 0} → (A → Type 0) → Outcome A → Type 0
GivesSuch P (Gives a w) = P a × HoldsValues w
GivesSuch P (Ends end events) = Unit {0}

-- so it is from every world that holds values
abbrev pub Makes : {A : Type 0} → (A → Type 0) → Doing A → Type 0
Makes P m = (w : World) → HoldsValues w → GivesSuch P (m w)

-- the constants of an expression are values, and its texts are no more than the cells that a file may have
unfoldable mutual
  pub HasValues : Value → Type 0
  HasValues (value line t (constant n)) = IsValue n
  HasValues (value line t null) = Unit {0}
  HasValues (value line t (read p)) = HasPlace p
  HasValues (value line t (first_element p)) = HasPlace p
  HasValues (value line t (address p)) = HasPlace p
  HasValues (value line t (function n)) = Unit {0}
  HasValues (value line t (minus e)) = HasValues e
  HasValues (value line t (complement e)) = HasValues e
  HasValues (value line t (negation e)) = HasValues e
  HasValues (value line t (arithmetic op at a b)) = HasValues a × HasValues b
  HasValues (value line t (sum at is_less pointer_first a b)) = HasValues a × HasValues b
  HasValues (value line t (difference at a b)) = HasValues a × HasValues b
  HasValues (value line t (comparison op at a b)) = HasValues a × HasValues b
  HasValues (value line t (conjunction a b)) = HasValues a × HasValues b
  HasValues (value line t (disjunction a b)) = HasValues a × HasValues b
  HasValues (value line t (choice e a b)) = HasValues e × HasValues a × HasValues b
  HasValues (value line t (sequence dropped last)) = HaveValues dropped × HasValues last
  HasValues (value line t (assignment p e)) = HasPlace p × HasValues e
  HasValues (value line t (update is_after p first op at ty e)) = HasPlace p × HasValues e
  HasValues (value line t (move is_after p is_less at e)) = HasPlace p × HasValues e
  HasValues (value line t (conversion first e)) = HasValues e
  HasValues (value line t (to_bool first e)) = HasValues e
  HasValues (value line t (requalified e)) = HasValues e
  HasValues (value line t (discarded e)) = HasValues e
  HasValues (value line t (call at n es)) = HaveValues es
  HasValues (value line t (call_through at e es)) = HasValues e × HaveValues es
  HasValues (value line t (putchar at e)) = HasValues e
  HasValues (value line t (getchar at)) = Unit {0}
  HasValues (value line t (exit at e)) = HasValues e

  pub HasPlace : Place → Type 0
  HasPlace (place line t (local n)) = Unit {0}
  HasPlace (place line t (static n)) = Unit {0}
  HasPlace (place line t (text n)) = n ≤ 1048576
  HasPlace (place line t (pointed e)) = HasValues e
  HasPlace (place line t (element at pointer_first a b)) = HasValues a × HasValues b

  pub HaveValues : Values → Type 0
  HaveValues no_values = Unit {0}
  HaveValues (first_value e es) = HasValues e × HaveValues es

-- what a program's names stand for are values, and its files have no more static objects than cells
pub record NamesValues (program : Program) : Type 0 where
  pub entities : (n : ℕ) → IsValue (value_of_entity program n)
  pub main_statics : length program.main_file.statics ≤ 1048576
  pub binary_statics : length program.binary_file.statics ≤ 1048576

-- a call that gets values gives one
abbrev pub CallsWithValues : ((line number : ℕ) (arguments : List ℕ) → Doing ℕ) → Type 0
CallsWithValues f = (line number : ℕ) (arguments : List ℕ) → AreValues arguments → Makes IsValue (f line number arguments)

-- an expression gives a value, and what it stores are values
abbrev pub GivesValue : Setting → Value → Type 0
GivesValue s e = NamesValues s.program → CallsWithValues s.call → HasValues e → Makes IsValue (value_of s e)

-- the same of statements
abbrev pub MayHaveValues : Option Value → Type 0
MayHaveValues None = Unit {0}
MayHaveValues (Some e) = HasValues e

abbrev pub HaveCells : List Cell → Type 0
HaveCells [] = Unit {0}
HaveCells (c ∷ rest) = HasValues c.value × HaveCells rest

abbrev pub HasInitial : Option Initializer → Type 0
HasInitial None = Unit {0}
HasInitial (Some (scalar e)) = HasValues e
HasInitial (Some (cells given)) = HaveCells given

abbrev pub HaveInitials : List LocalItem → Type 0
HaveInitials [] = Unit {0}
HaveInitials (l ∷ rest) = HasInitial l.initializer × HaveInitials rest

abbrev pub HasStart : ForStart → Type 0
HasStart (starts first) = MayHaveValues first
HasStart (declares locals) = HaveInitials locals

unfoldable mutual
  pub HasStatement : Stmt → Type 0
  HasStatement (block line items end) = HasItems items
  HasStatement (empty line) = Unit {0}
  HasStatement (expression line e) = HasValues e
  HasStatement (if_only line e a) = HasValues e × HasStatement a
  HasStatement (if_else line e a b) = HasValues e × HasStatement a × HasStatement b
  HasStatement (while line e a) = HasValues e × HasStatement a
  HasStatement (do_while line a e) = HasStatement a × HasValues e
  HasStatement (for line first e step a) = HasStart first × MayHaveValues e × MayHaveValues step × HasStatement a
  HasStatement (continue line) = Unit {0}
  HasStatement (break line) = Unit {0}
  HasStatement (return line e) = MayHaveValues e

  pub HasItems : Items → Type 0
  HasItems no_items = Unit {0}
  HasItems (declaration locals rest) = HaveInitials locals × HasItems rest
  HasItems (statement first rest) = HasStatement first × HasItems rest

-- a program whose constants and names are values
pub record IsOfValues (program : Program) : Type 0 where
  pub names : NamesValues program
  pub bodies : (number : ℕ) (f : Function) → function_at program number ≡ Some f → HasItems f.body

-- each call gives a value and stores values, whatever the bound of its recursion
abbrev pub CallsGiveValues : Program → Type 0
CallsGiveValues program = IsOfValues program → (most : ℕ) → CallsWithValues (calls program most)

-- what the cells of static objects start with
abbrev pub CellsStart : Program → Part → List StartCell → Type 0
CellsStart program part [] = Unit {0}
CellsStart program part (c ∷ rest) = IsValue (start_value program part c.start) × CellsStart program part rest

abbrev pub StaticsStart : Program → Part → List Static → Type 0
StaticsStart program part [] = Unit {0}
StaticsStart program part (o ∷ rest) = CellsStart program part o.cells × StaticsStart program part rest

-- a run starts with values, where its input and its static objects do
abbrev pub StartsWithValues : Program → List ℕ → Limits → Type 0
StartsWithValues program input limits =
    StaticsStart program Protected program.main_file.statics → StaticsStart program Binary program.binary_file.statics → AreValues input →
    HoldsValues (started program input limits)
