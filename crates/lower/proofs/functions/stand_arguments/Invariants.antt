use Rattle.std.proofs.Common.{◌-◌, Result}
use Rattle.std.specs.Prelude.{⊤}
use Rattle.source_meaning.specs.Calls.{numbers_below}
use Rattle.lower.specs.declared.emitter.Emitter.{Emitter}
use Rattle.lower.specs.declared.refusal.LowerRefusal.{LowerRefusal}
use Rattle.lower.specs.Programs.{arguments_stand}
use Rattle.lower.specs.Emits.{Emits, nothing, rows_of, inside_view}
use Rattle.lower.proofs.Parameters.{numbers_from}
use Rattle.lower.proofs.functions.stand_arguments.Given as goal

abbrev pub invariant-loop-number : goal.invariant-loop-number
invariant-loop-number l = (new : Emitter) (r : Result ⊤ LowerRefusal) →
    Emits nothing (rows_of l.at) l.out new r (arguments_stand (inside_view l.at) (numbers_from (l.at.function.now.parameters - l.number) l.number))
    → Emits nothing (rows_of l.at) l.fn.out new r (arguments_stand (inside_view l.at) (numbers_below l.at.function.now.parameters))
