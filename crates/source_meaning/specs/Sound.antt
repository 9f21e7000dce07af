-- Programs that can run: each operator has operands of the types that it asks for, and each object has its cells.
--
-- A typed program is one; whoever runs a program relies on it.
use Rattle.std.specs.Prelude.{◌≡◌, ℕ, ◌+◌, ◌≤◌, Bool, true, false, List, [], ◌∷◌, length, Option, Some, None, IsTrue}
use Rattle.srmt_base.specs.declared.part.Part.{Part}
use Rattle.srmt_base.specs.declared.part.Part.TheVariants.{Protected, Binary}
use Rattle.srmt_base.specs.Types.{IsPromoted}
use Rattle.srmt_base.specs.Arith.{is_comparison}
use Rattle.c_types.specs.Types.{CType, ty_of, target_of, cells_of}
use Rattle.c_typed.specs.declared.program.TextObject.{TextObject}
use Rattle.c_typed.specs.Typed.{Place, place, local, static, text, pointed, element, Value, value, constant, null, read, first_element, address, function, minus, complement, negation, arithmetic, sum, difference, comparison, conjunction, disjunction, choice, sequence, assignment, update, move, conversion, to_bool, requalified, discarded, call, call_through, putchar, getchar, exit, Values, no_values, first_value, type_of, place_type}
use Rattle.c_typed.specs.Statements.{Cell, Initializer, scalar, cells, LocalItem, ForStart, starts, declares, Stmt, block, empty, expression, if_only, if_else, while, do_while, for, continue, break, return, Items, no_items, declaration, statement, Function, Program, Static, TypedFile, LocalRow}
use Rattle.source_meaning.specs.Places.{function_at}
use Rattle.source_meaning.specs.Values.{IsOfValues, StaticsStart}

-- an object of the type takes 1 to 65,535 cells
abbrev pub HasCells : CType → Type 0
HasCells t = (1 ≤ cells_of t) × (cells_of t ≤ 65535)

-- a pointer of the type leads to such an object, so that sums move by its cells
abbrev pub HasScale : CType → Type 0
HasScale t = HasCells (target_of t).type

-- a type at which arithmetic is made (C11 6.3.1.1p2)
abbrev pub IsComputedAt : CType → Type 0
IsComputedAt t = IsPromoted (ty_of t)

-- the pointer of a pointer and an integer
abbrev pub pointer_of : Bool → Value → Value → Value
pointer_of true a b = a
pointer_of false a b = b

unfoldable mutual
  pub HasOperands : Value → Type 0
  HasOperands (value line t (constant n)) = Unit {0}
  HasOperands (value line t null) = Unit {0}
  HasOperands (value line t (read p)) = PlaceHasOperands p
  HasOperands (value line t (first_element p)) = PlaceHasOperands p
  HasOperands (value line t (address p)) = PlaceHasOperands p
  HasOperands (value line t (function n)) = Unit {0}
  HasOperands (value line t (minus e)) = IsComputedAt (type_of e) × HasOperands e
  HasOperands (value line t (complement e)) = IsComputedAt (type_of e) × HasOperands e
  HasOperands (value line t (negation e)) = HasOperands e
  HasOperands (value line t (arithmetic op at a b)) = IsComputedAt (type_of a) × HasOperands a × HasOperands b
  HasOperands (value line t (sum at is_less pointer_first a b)) = HasScale (type_of (pointer_of pointer_first a b)) × HasOperands a × HasOperands b
  HasOperands (value line t (difference at a b)) = HasScale (type_of a) × HasOperands a × HasOperands b
  HasOperands (value line t (comparison op at a b)) = IsTrue (is_comparison op) × HasOperands a × HasOperands b
  HasOperands (value line t (conjunction a b)) = HasOperands a × HasOperands b
  HasOperands (value line t (disjunction a b)) = HasOperands a × HasOperands b
  HasOperands (value line t (choice e a b)) = HasOperands e × HasOperands a × HasOperands b
  HasOperands (value line t (sequence dropped last)) = HaveOperands dropped × HasOperands last
  HasOperands (value line t (assignment p e)) = PlaceHasOperands p × HasOperands e
  HasOperands (value line t (update is_after p first op at ty e)) = IsPromoted ty × PlaceHasOperands p × HasOperands e
  HasOperands (value line t (move is_after p is_less at e)) = HasScale (place_type p).type × PlaceHasOperands p × HasOperands e
  HasOperands (value line t (conversion first e)) = HasOperands e
  HasOperands (value line t (to_bool first e)) = HasOperands e
  HasOperands (value line t (requalified e)) = HasOperands e
  HasOperands (value line t (discarded e)) = HasOperands e
  HasOperands (value line t (call at n es)) = HaveOperands es
  HasOperands (value line t (call_through at e es)) = HasOperands e × HaveOperands es
  HasOperands (value line t (putchar at e)) = HasOperands e
  HasOperands (value line t (getchar at)) = Unit {0}
  HasOperands (value line t (exit at e)) = HasOperands e

  pub PlaceHasOperands : Place → Type 0
  PlaceHasOperands (place line t (local n)) = Unit {0}
  PlaceHasOperands (place line t (static n)) = Unit {0}
  PlaceHasOperands (place line t (text n)) = n ≤ 1048576
  PlaceHasOperands (place line t (pointed e)) = HasOperands e
  PlaceHasOperands (place line t (element at pointer_first a b)) =
      HasScale (type_of (pointer_of pointer_first a b)) × HasOperands a × HasOperands b

  pub HaveOperands : Values → Type 0
  HaveOperands no_values = Unit {0}
  HaveOperands (first_value e es) = HasOperands e × HaveOperands es

-- ---- the same of statements

abbrev pub MayHaveOperands : Option Value → Type 0
MayHaveOperands None = Unit {0}
MayHaveOperands (Some e) = HasOperands e

abbrev pub CellsHaveOperands : List Cell → Type 0
CellsHaveOperands [] = Unit {0}
CellsHaveOperands (c ∷ rest) = HasOperands c.value × CellsHaveOperands rest

abbrev pub InitialHasOperands : Option Initializer → Type 0
InitialHasOperands None = Unit {0}
InitialHasOperands (Some (scalar e)) = HasOperands e
InitialHasOperands (Some (cells given)) = CellsHaveOperands given

abbrev pub LocalsHaveOperands : List LocalItem → Type 0
LocalsHaveOperands [] = Unit {0}
LocalsHaveOperands (l ∷ rest) = InitialHasOperands l.initializer × LocalsHaveOperands rest

abbrev pub StartHasOperands : ForStart → Type 0
StartHasOperands (starts first) = MayHaveOperands first
StartHasOperands (declares locals) = LocalsHaveOperands locals

unfoldable mutual
  pub StmtHasOperands : Stmt → Type 0
  StmtHasOperands (block line items end) = ItemsHaveOperands items
  StmtHasOperands (empty line) = Unit {0}
  StmtHasOperands (expression line e) = HasOperands e
  StmtHasOperands (if_only line e a) = HasOperands e × StmtHasOperands a
  StmtHasOperands (if_else line e a b) = HasOperands e × StmtHasOperands a × StmtHasOperands b
  StmtHasOperands (while line e a) = HasOperands e × StmtHasOperands a
  StmtHasOperands (do_while line a e) = StmtHasOperands a × HasOperands e
  StmtHasOperands (for line first e step a) = StartHasOperands first × MayHaveOperands e × MayHaveOperands step × StmtHasOperands a
  StmtHasOperands (continue line) = Unit {0}
  StmtHasOperands (break line) = Unit {0}
  StmtHasOperands (return line e) = MayHaveOperands e

  pub ItemsHaveOperands : Items → Type 0
  ItemsHaveOperands no_items = Unit {0}
  ItemsHaveOperands (declaration locals rest) = LocalsHaveOperands locals × ItemsHaveOperands rest
  ItemsHaveOperands (statement first rest) = StmtHasOperands first × ItemsHaveOperands rest

-- ---- functions and files

abbrev pub EachLocalHasCells : List LocalRow → Type 0
EachLocalHasCells [] = Unit {0}
EachLocalHasCells (l ∷ rest) = HasCells l.type.type × EachLocalHasCells rest

abbrev pub EachStaticHasCells : List Static → Type 0
EachStaticHasCells [] = Unit {0}
EachStaticHasCells (s ∷ rest) = HasCells s.type.type × EachStaticHasCells rest

-- a text's object has a cell for each byte, and one for the 0 at its end
abbrev pub EachTextHasCells : List TextObject → Type 0
EachTextHasCells [] = Unit {0}
EachTextHasCells (t ∷ rest) = (length t.bytes + 1 ≤ 65535) × EachTextHasCells rest

pub record FunctionCanRun (f : Function) : Type 0 where
  pub locals : EachLocalHasCells f.locals
  pub body : ItemsHaveOperands f.body

pub record FileCanRun (program : Program) (part : Part) (file : TypedFile) : Type 0 where
  pub statics : EachStaticHasCells file.statics
  pub texts : EachTextHasCells file.texts
  -- what their cells start with are numbers of 44 bits
  pub starts : StaticsStart program part file.statics

pub record CanRun (program : Program) : Type 0 where
  pub values : IsOfValues program
  pub functions : (number : ℕ) (f : Function) → function_at program number ≡ Some f → FunctionCanRun f
  pub main_file : FileCanRun program Protected program.main_file
  pub binary_file : FileCanRun program Binary program.binary_file
