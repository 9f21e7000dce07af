-- Steps of defining an object of file scope with an initializer.
use Rattle.std.specs.Prelude.{Bool as Test, true, not, ◌&&◌, List}
use Rattle.c_types.specs.Types.{Qualified, is_complete, may_be_one}
use Rattle.c_types.specs.declared.type_ref.Row.{Row}
use Rattle.c_types.specs.Table.{type_at}
use Rattle.c_typed.specs.declared.program.StartCell.{StartCell}
use Rattle.c_typed.specs.declared.statement.Cell.{Cell}
use Rattle.c_typed.specs.Starts.{start_of}
use Rattle.c_typed.specs.Views.{value_view}
use Rattle.typing_rules.specs.declared.refusal.TypeRefusal.TheVariants.{Mismatch}
use Rattle.typing_rules.specs.Source.{Named}
use Rattle.typing_rules.specs.SourceUnits.{Initial}
use Rattle.typing_rules.specs.Known.{Entity, Linked, entity_at}
use Rattle.typing_rules.specs.DeclarationRules.{Initialized, or_zero}
use Rattle.typing_rules.specs.UnitRules.{with_contents}
use Rattle.typing_rules.specs.Checking.{Checking, ◌>>=◌, ◌>>◌, makes, tests}
use Rattle.typing_rules.specs.OrderedDeclarations.{initialized}
use Rattle.typing_rules.specs.OrderedUnits.{counted_if}

-- what a given cell of a static object starts with
abbrev pub cell_start : List Row → Cell → StartCell
cell_start rows c = record { index = c.index; start = or_zero (start_of (value_view (type_at rows) c.value)) }

-- a type that an initializer completes agrees with the declarations of an object
abbrev pub agrees_in : Linked → Qualified → List Entity → Test
agrees_in l type entities = may_be_one type l.type && may_be_one type (entity_at entities l.entity).type

-- the cells of an object whose type its initializer completes are counted
abbrev pub contents_counted : Named → Linked → Test → Initialized → Checking (Unit {0})
contents_counted name l first done =
    counted_if (first && not (is_complete l.type.type)) name.line done.type >> makes (with_contents name l done)

-- where the type that its initializer completes agrees with its declarations
abbrev pub contents_agreeing : Named → Linked → Test → Initialized → Checking (Unit {0})
contents_agreeing name l first done =
    tests (λ k. agrees_in l done.type k.entities) (Mismatch name.line 17) >> contents_counted name l first done

-- after its cells are counted, where its type was complete before
abbrev pub contents_given : Named → Linked → Qualified → Initial → Test → Checking (Unit {0})
contents_given name l type x first = initialized true name.line type x >>= contents_agreeing name l first

-- after it is defined, perhaps for the first time
abbrev pub defined_then : Named → Linked → Qualified → Initial → Test → Checking (Unit {0})
defined_then name l type x first = counted_if (first && is_complete l.type.type) name.line l.type >> contents_given name l type x first
