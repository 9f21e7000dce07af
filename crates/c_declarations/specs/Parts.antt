-- What declared locals and initializers of the code stand for.
use Rattle.std.specs.Prelude.{◌≡◌, ◌||◌, ℕ, false, List, [], ◌∷◌, map, length, Option, Some, None, option_map, is_some}
use Rattle.c_types.specs.Types.{Qualified, is_function, is_complete}
use Rattle.c_typed.specs.declared.statement.Initializer as code_initializer
use Rattle.typing_rules.specs.declared.refusal.TypeRefusal.TheVariants.{Mismatch}
use Rattle.typing_rules.specs.Known as known
use Rattle.typing_rules.specs.OrderedParts.{declares}
use Rattle.typing_rules.specs.Source.{Declarator, Named}
use Rattle.typing_rules.specs.SourceUnits.{Item}
use Rattle.typing_rules.specs.DeclaratorRules.{lines_of, derived, name_of, or_no_name, first_of_declarator, new_local}
use Rattle.typing_rules.specs.Checking.{Checking, ◌>>=◌, ◌>>◌, pure, asks, makes, needs, choose, from_result}
use Rattle.typing_rules.specs.Ordered.{derivations_of}
use Rattle.typing_rules.specs.OrderedDeclarations.{function_in_block, function_meaning, no_initial, object_in_block, local_initialized}
use Rattle.c_types.specs.declared.type_ref.Row.{Row}
use Rattle.c_types.specs.Table.{type_at, Extends, StandsFor}
use Rattle.c_typed.specs.declared.statement.Cell as code_cell
use Rattle.c_typed.specs.declared.statement.LocalItem as code_item
use Rattle.c_typed.specs.Statements.{Cell, Initializer, LocalItem}
use Rattle.c_typed.specs.StatementViews.{cell_view, initializer_view, local_item_view}
use Rattle.typing_rules.specs.DeclarationRules as rule
use Rattle.c_declarations.specs.declared.initializer.Initialized.{Initialized}

pub record AreLocalItems (rows : List Row) (xs : List code_item.LocalItem) (ls : List LocalItem) : Type 0 where
  pub always : (later : List Row) → Extends rows later → map (local_item_view (type_at later)) xs ≡ ls

pub record AreCells (rows : List Row) (xs : List code_cell.Cell) (cs : List Cell) : Type 0 where
  pub always : (later : List Row) → Extends rows later → map (cell_view (type_at later)) xs ≡ cs

pub record MeansInitialized (rows : List Row) (x : Initialized) (i : rule.Initialized) : Type 0 where
  pub type : StandsFor rows x.ty i.type
  pub given : AreCells rows x.given.items i.given

-- ---- declarations in blocks

-- the items of a declaration declare one local, or none
abbrev pub one_or_none : Option code_item.LocalItem → List code_item.LocalItem
one_or_none None = []
one_or_none (Some x) = x ∷ []

abbrev pub IsLocalItem : List Row → Option code_item.LocalItem → List LocalItem → Type 0
IsLocalItem rows x ls = AreLocalItems rows (one_or_none x) ls

-- the type of a declarator behind specifiers on a line
abbrev pub type_declared : Qualified → ℕ → Declarator → Checking Qualified
type_declared base specifiers d = derivations_of (lines_of d specifiers) d >>= (λ ds. from_result (derived (lines_of d specifiers) false base ds))

abbrev pub function_declared : Item → Qualified → Checking (List LocalItem)
function_declared x t = function_in_block (or_no_name (name_of x.declarator)) t x.initial

abbrev pub object_declared : Item → Qualified → Checking (List LocalItem)
object_declared x t = object_in_block (or_no_name (name_of x.declarator)) (first_of_declarator x.declarator) t x.initial

abbrev pub as_declared : Item → Qualified → Checking (List LocalItem)
as_declared x t = choose (is_function t.type) (function_declared x t) (object_declared x t)

-- ---- objects in blocks, from the end of what is done to its begin

pub record MeansInitializerIf (rows : List Row) (x : Option code_initializer.Initializer) (i : Option Initializer) : Type 0 where
  pub always : (later : List Row) → Extends rows later → option_map (initializer_view (type_at later)) x ≡ i

abbrev pub item_name : Item → Named
item_name x = or_no_name (name_of x.declarator)

abbrev pub new_object : Item → Qualified → known.Local
new_object x t = new_local (item_name x) (first_of_declarator x.declarator) t

abbrev pub completes : ℕ → rule.Initialized → Checking (Option Initializer)
completes n i = makes (known.local_completed n i.type) >> pure (rule.initializer_of i.type.type i.given)

abbrev pub given : Item → Qualified → ℕ → Checking (List LocalItem)
given x t n = local_initialized (item_name x).line n t x.initial >>= (λ i. pure (record { number = n; initializer = i } ∷ []))

abbrev pub added : Item → Qualified → ℕ → Checking (List LocalItem)
added x t n = makes (known.with_local (new_object x t)) >> given x t n

abbrev pub named : Item → Qualified → ℕ → Checking (List LocalItem)
named x t n = declares (item_name x) (known.local n) >> added x t n

abbrev pub numbered : Item → Qualified → Checking (List LocalItem)
numbered x t = asks (λ k. length k.locals) >>= named x t

abbrev pub sized : Item → Qualified → Checking (List LocalItem)
sized x t = needs (is_some x.initial || is_complete t.type) (Mismatch (item_name x).line 15) >> numbered x t

-- ---- functions in blocks

abbrev pub without_initial : Item → Checking (List LocalItem)
without_initial x = no_initial (item_name x).line x.initial >> pure []

abbrev pub meant : Item → known.Meaning → Checking (List LocalItem)
meant x m = makes (known.meaning (item_name x).bytes m) >> without_initial x

abbrev pub meaning_found : Item → Qualified → Checking known.Meaning
meaning_found x t = function_meaning (item_name x) t (known.found_in (item_name x).bytes known.predeclared_scope)

abbrev pub found_and_meant : Item → Qualified → Checking (List LocalItem)
found_and_meant x t = meaning_found x t >>= meant x
