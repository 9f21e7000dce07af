use Rattle.std.proofs.Common.{Result, drop}
use Rattle.std.specs.Prelude.{⊤}
use Rattle.lower.specs.declared.body.Body.{Body}
use Rattle.lower.specs.declared.refusal.LowerRefusal.{LowerRefusal}
use Rattle.lower.specs.Statements.{begun_at, all_begin}
use Rattle.lower.specs.Emits.{nothing, rows_of, types_of, inside_view}
use Rattle.lower.specs.Runs.{Begins}
use Rattle.lower.proofs.LocalSteps.{block_numbers}
use Rattle.lower.proofs.locals.begin_block.Given as goal

abbrev pub invariant-loop-item : goal.invariant-loop-item
invariant-loop-item l = (new : Body) (r : Result ⊤ LowerRefusal) →
    Begins nothing (rows_of l.at) (λ start. begun_at (inside_view l.at).rows start (block_numbers (types_of l.at) (drop l.item-index l.items))) l.body new r
    (all_begin (inside_view l.at) (block_numbers (types_of l.at) (drop l.item-index l.items)))
    → Begins nothing (rows_of l.at) (λ start. begun_at (inside_view l.at).rows start (block_numbers (types_of l.at) l.items)) l.fn.body new r
    (all_begin (inside_view l.at) (block_numbers (types_of l.at) l.items))
