use Rattle.std.proofs.Common.{map, drop, Result}
use Rattle.std.specs.Prelude.{⊤}
use Rattle.c_typed.specs.StatementViews.{all_items as items_of, block_item_view}
use Rattle.lower.specs.declared.body.Body.{Body}
use Rattle.lower.specs.declared.refusal.LowerRefusal.{LowerRefusal}
use Rattle.lower.specs.Statements.{lowers_items}
use Rattle.lower.specs.Emits.{nothing, rows_of, types_of, inside_view}
use Rattle.lower.specs.Runs.{Runs}
use Rattle.lower.proofs.statements.+statement.Given as goal

-- what the items left run, behind those so far, the whole runs
abbrev pub invariant-all_items-loop-item : goal.invariant-all_items-loop-item
invariant-all_items-loop-item l =
    (final : Body) (r : Result ⊤ LowerRefusal)
    → Runs nothing (rows_of l.at) l.body final r
    (lowers_items (inside_view l.at) (items_of (map (block_item_view (types_of l.at)) (drop l.item-index l.items))))
    → Runs nothing (rows_of l.at) l.initial.body final r (lowers_items (inside_view l.at) (items_of (map (block_item_view (types_of l.at)) l.items)))
