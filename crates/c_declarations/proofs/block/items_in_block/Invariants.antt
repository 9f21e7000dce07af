use Rattle.std.proofs.Common.{List, ◌++◌, Ok, Err}
use Rattle.c_types.specs.Types.{Qualified}
use Rattle.c_types.specs.Table.{StandsFor}
use Rattle.c_typed.specs.declared.statement.LocalItem.{LocalItem}
use Rattle.typing_rules.specs.declared.refusal.TypeRefusal.{TypeRefusal}
use Rattle.c_known.specs.declared.known.Known.{Known}
use Rattle.c_known.specs.Views.{line_in}
use Rattle.c_known.specs.Gives.{Gives}
use Rattle.c_declarations.specs.Parts.{AreLocalItems}
use Rattle.c_declarations.proofs.LocalItems.{items_from}
use Rattle.c_declarations.proofs.block.items_in_block.Given as goal

-- what the rest gives, all give, behind what is there
abbrev pub invariant-loop-x : goal.invariant-loop-x
invariant-loop-x l = record {
  done : (t : Qualified) → StandsFor l.fn.known.types l.base t → (new : Known) (ys : List LocalItem)
      → (StandsFor l.known.types l.base t → Gives AreLocalItems l.known new (Ok ys) (items_from (line_in l.file) t (line_in l.file l.specifiers) l.xs l.x-index))
      → Gives AreLocalItems l.fn.known new (Ok (l.items ++ ys)) (items_from (line_in l.file) t (line_in l.file l.specifiers) l.xs 0);
  refused : (t : Qualified) → StandsFor l.fn.known.types l.base t → (new : Known) (e : TypeRefusal)
      → (StandsFor l.known.types l.base t → Gives {X = List LocalItem} AreLocalItems l.known new (Err e) (items_from (line_in l.file) t (line_in l.file l.specifiers) l.xs l.x-index))
      → Gives {X = List LocalItem} AreLocalItems l.fn.known new (Err e) (items_from (line_in l.file) t (line_in l.file l.specifiers) l.xs 0);
}
