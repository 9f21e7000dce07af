use Rattle.std.proofs.Common.{Result, drop}
use Rattle.std.specs.Prelude.{⊤}
use Rattle.lower.specs.declared.body.Body.{Body}
use Rattle.lower.specs.declared.refusal.LowerRefusal.{LowerRefusal}
use Rattle.lower.specs.Statements.{begun_at, all_begin}
use Rattle.lower.specs.Emits.{nothing, rows_of, types_of, inside_view}
use Rattle.lower.specs.Runs.{Begins}
use Rattle.lower.proofs.LocalSteps.{numbers}
use Rattle.lower.proofs.locals.begin_locals.Given as goal

abbrev pub invariant-loop-local : goal.invariant-loop-local
invariant-loop-local l = (new : Body) (r : Result ⊤ LowerRefusal) →
    Begins nothing (rows_of l.at) (λ start. begun_at (inside_view l.at).rows start (numbers (types_of l.at) (drop l.local-index l.locals))) l.body new r
    (all_begin (inside_view l.at) (numbers (types_of l.at) (drop l.local-index l.locals)))
    → Begins nothing (rows_of l.at) (λ start. begun_at (inside_view l.at).rows start (numbers (types_of l.at) l.locals)) l.fn.body new r
    (all_begin (inside_view l.at) (numbers (types_of l.at) l.locals))
