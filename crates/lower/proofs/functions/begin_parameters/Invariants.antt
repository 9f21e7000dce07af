use Rattle.std.proofs.Common.{◌-◌, Result}
use Rattle.std.specs.Prelude.{⊤}
use Rattle.source_meaning.specs.Calls.{numbers_below}
use Rattle.lower.specs.declared.body.Body.{Body}
use Rattle.lower.specs.declared.refusal.LowerRefusal.{LowerRefusal}
use Rattle.lower.specs.Programs.{parameters_at, parameters_begin}
use Rattle.lower.specs.Emits.{nothing, rows_of, inside_view}
use Rattle.lower.specs.Runs.{Begins}
use Rattle.lower.proofs.Parameters.{numbers_from}
use Rattle.lower.proofs.functions.begin_parameters.Given as goal

abbrev pub invariant-loop-number : goal.invariant-loop-number
invariant-loop-number l = (new : Body) (r : Result ⊤ LowerRefusal) →
    Begins nothing (rows_of l.at) (λ start. parameters_at (inside_view l.at).rows start
    (numbers_from (l.at.function.now.parameters - l.number) l.number)) l.body
    new r (parameters_begin (inside_view l.at) (numbers_from (l.at.function.now.parameters - l.number) l.number))
    → Begins nothing (rows_of l.at) (λ start. parameters_at (inside_view l.at).rows start (numbers_below l.at.function.now.parameters)) l.fn.body new r
    (parameters_begin (inside_view l.at) (numbers_below l.at.function.now.parameters))
