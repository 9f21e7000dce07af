use Rattle.std.proofs.Common.{Ok, map, take}
use Rattle.c_types.specs.Types.{CType}
use Rattle.c_types.specs.Table.{Stands}
use Rattle.typing_rules.specs.SourceViews.{block_item_view}
use Rattle.c_known.specs.Views.{line_in}
use Rattle.c_known.specs.Gives.{Gives}
use Rattle.c_statements.specs.Steps.{parts_of}
use Rattle.c_statements.specs.Parts.{AreParts}
use Rattle.c_statements.proofs.statement.+statement.Given as goal

-- the parts so far are those of the items so far
abbrev pub invariant-parts-loop-x : goal.invariant-parts-loop-x
invariant-parts-loop-x l = (type : CType) → Stands l.fn.known.types l.at.returns type
    → Gives AreParts l.fn.known l.known (Ok l.made) (parts_of type l.at.in_loop (map (block_item_view (line_in l.at.file)) (take l.x-index l.xs)))
