use Rattle.std.proofs.Common.{◌≡◌, ℕ, ◌+◌, ◌*◌, List, Result}
use Rattle.std.specs.Bool.{⊤}
use Rattle.c_types.specs.Types.{CType, cells_of}
use Rattle.c_types.specs.Table.{Stands}
use Rattle.c_typed.specs.declared.statement.Cell.{Cell}
use Rattle.typing_rules.specs.declared.refusal.TypeRefusal.{TypeRefusal}
use Rattle.c_known.specs.declared.known.Known.{Known}
use Rattle.c_known.specs.Views.{line_in}
use Rattle.c_declarations.specs.Cells.{counted, Adds}
use Rattle.c_declarations.proofs.Adding.{items_from}
use Rattle.c_declarations.proofs.items.+cells.Given as goal

-- what the rest adds, all add, behind what is there
abbrev pub invariant-add_items-loop-item : goal.invariant-add_items-loop-item
invariant-add_items-loop-item l = record {
  number : l.number ≡ l.item-index;
  counts : (t : CType) (i : ℕ) → Stands l.fn.known.types l.elements.ty t → l.elements.index ≡ counted i → l.index ≡ counted (i + l.item-index * cells_of t);
  rest : (t : CType) (i : ℕ) → Stands l.fn.known.types l.elements.ty t → l.elements.index ≡ counted i → (new : Known) (after : List Cell) (r : Result ⊤ TypeRefusal)
      → (Stands l.known.types l.elements.ty t
      → Adds l.cells.items after l.known new r (items_from (line_in l.object.file) l.object.is_static l.object.at t l.elements.length l.items l.item-index (i + l.item-index * cells_of t)))
      → Adds l.fn.cells.items after l.fn.known new r (items_from (line_in l.object.file) l.object.is_static l.object.at t l.elements.length l.items 0 i);
}
