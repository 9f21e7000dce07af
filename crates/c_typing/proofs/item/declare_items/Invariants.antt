use Rattle.std.proofs.Common.{◌≡◌, List, map, drop, Result}
use Rattle.std.specs.Prelude.{⊤}
use Rattle.c_types.specs.Types.{Qualified}
use Rattle.c_types.specs.Table.{StandsFor}
use Rattle.typing_rules.specs.declared.refusal.TypeRefusal.{TypeRefusal}
use Rattle.typing_rules.specs.SourceViews.{item_view}
use Rattle.typing_rules.specs.OrderedUnits.{items_at_file}
use Rattle.c_entities.specs.Views.{storage_view}
use Rattle.c_known.specs.declared.known.Known.{Known}
use Rattle.c_known.specs.Views.{line_in}
use Rattle.c_known.specs.Gives.{Gives, IsDone}
use Rattle.c_typing.proofs.item.declare_items.Given as goal

-- whatever the items that are left give, all give
abbrev pub invariant-loop-x : goal.invariant-loop-x
invariant-loop-x l =
    (new : Known) (r : Result ⊤ TypeRefusal) (t : Qualified) → StandsFor l.initial.known.types l.base t
    → (StandsFor l.known.types l.base t → Gives IsDone l.known new r (items_at_file (storage_view l.storage) t (line_in l.file l.line) (map (item_view (line_in l.file)) (drop l.x-index l.items))))
    → Gives IsDone l.initial.known new r (items_at_file (storage_view l.storage) t (line_in l.file l.line) (map (item_view (line_in l.file)) l.items))
