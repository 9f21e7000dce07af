-- Cells that an initializer gives, added behind others, and the steps that give them.
use Rattle.std.specs.Prelude.{◌≡◌, ◌<◌, ◌-◌, ◌^◌, ◌||◌, ℕ, min, nat_le, Bool as Test, not, List, [], ◌∷◌, ◌++◌, map, Option, option_map, is_some, All, Result, ⊤}
use Rattle.srmt_base.specs.declared.ty.Ty.{Ty}
use Rattle.c_types.specs.declared.type_ref.Row.{Row}
use Rattle.c_types.specs.Types.{CType, Qualified, cells_of}
use Rattle.c_types.specs.Table.{type_at, Extends}
use Rattle.c_typed.specs.declared.statement.Cell as code_cell
use Rattle.c_typed.specs.Typed.{Value}
use Rattle.c_typed.specs.Statements.{Cell}
use Rattle.c_typed.specs.Starts.{start_of}
use Rattle.c_typed.specs.StatementViews.{cell_view}
use Rattle.typing_rules.specs.declared.refusal.TypeRefusal.{TypeRefusal}
use Rattle.typing_rules.specs.declared.refusal.TypeRefusal.TheVariants.{Mismatch, TooLarge}
use Rattle.typing_rules.specs.declared.refusal.Size.TheVariants.{Cells}
use Rattle.typing_rules.specs.Limits.{most_cells}
use Rattle.typing_rules.specs.Source.{Bytes}
use Rattle.typing_rules.specs.SourceUnits.{Initial}
use Rattle.typing_rules.specs.Terms.{Written}
use Rattle.typing_rules.specs.DeclarationRules.{TextAt, text_fits, text_cells, byte_cells, completed, is_past, Initialized}
use Rattle.typing_rules.specs.Checking.{Checking, ◌>>=◌, ◌>>◌, pure, choose, needs}
use Rattle.typing_rules.specs.OrderedDeclarations.{misshapen, cells_given}
use Rattle.c_values.specs.Answers.{value_for}
use Rattle.c_known.specs.declared.known.Known.{Known}
use Rattle.c_known.specs.Gives.{Gives}

-- the number of a cell as the code counts it: the count stands still at the end of its type
abbrev pub counted : ℕ → ℕ
counted n = min n (2 ^ 32 - 1)

abbrev pub counted_cell : Cell → Cell
counted_cell c = record { index = counted c.index; value = c.value }

pub record AreCounted (rows : List Row) (xs : List code_cell.Cell) (cs : List Cell) : Type 0 where
  pub always : (later : List Row) → Extends rows later → map (cell_view (type_at later)) xs ≡ map counted_cell cs

-- cells were added behind others
pub record Added (before after : List code_cell.Cell) (rows : List Row) (x : ⊤) (cs : List Cell) : Type 0 where
  pub more : List code_cell.Cell
  pub is : after ≡ before ++ more
  pub are : AreCounted rows more cs

-- what checking gives was added behind others
abbrev pub Adds : List code_cell.Cell → List code_cell.Cell → Known → Known → Result ⊤ TypeRefusal → Checking (List Cell) → Type 0
Adds before after old new result m = Gives (Added before after) old new result m

-- no count stands still
abbrev pub AreExact : List code_cell.Cell → Type 0
AreExact cells = All (λ c. c.index < 2 ^ 32 - 1) cells

-- ---- scalars

-- the cell of a scalar's value
abbrev pub scalar_cell : Test → ℕ → ℕ → Value → Checking (List Cell)
scalar_cell is_static at index v = needs (not is_static || is_some (start_of v)) (Mismatch at 16) >> pure (record { index = index; value = v } ∷ [])

abbrev pub converted_cell : Test → ℕ → CType → ℕ → Written → Checking (List Cell)
converted_cell is_static at t index w = value_for at t w >>= scalar_cell is_static at index

-- ---- texts

-- a text with the line of its first token
abbrev pub text_on : ℕ → Option Bytes → Option TextAt
text_on line bytes = option_map (λ b. record { line = line; bytes = b }) bytes

-- a text as elements of an integer type
abbrev pub fitting_text : ℕ → Ty → Option ℕ → ℕ → TextAt → Checking (List Cell)
fitting_text at ty n index t = needs (text_fits n t.bytes) (Mismatch at 16) >> pure (byte_cells t.line ty index (text_cells n t.bytes))

-- ---- items of arrays

abbrev pub item_given : Test → ℕ → CType → Option ℕ → ℕ → ℕ → Initial → Checking (List Cell)
item_given is_static at t n i index x = choose (is_past n i) (misshapen at x) (cells_given is_static at t index x)

-- ---- the type that an initializer completes

-- a type that is not too large
abbrev pub type_sized : ℕ → CType → Checking CType
type_sized at t = needs (nat_le (cells_of t) most_cells) (TooLarge at Cells) >> pure t

-- what is given to an object of a type, once its cells are known
abbrev pub given_with : ℕ → Qualified → Initial → List Cell → Checking Initialized
given_with at t x given =
    needs (nat_le (cells_of (completed t.type x)) most_cells) (TooLarge at Cells)
    >> pure (record { type = record { qualifiers = t.qualifiers; type = completed t.type x }; given = given })
