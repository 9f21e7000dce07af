use Rattle.std.proofs.Common.{Result, drop}
use Rattle.std.specs.Prelude.{⊤}
use Rattle.lower.specs.declared.emitter.Emitter.{Emitter}
use Rattle.lower.specs.declared.refusal.LowerRefusal.{LowerRefusal}
use Rattle.lower.specs.Emits.{Emits, nothing, rows_of, types_of, inside_view}
use Rattle.lower.proofs.Cells.{Locals}
use Rattle.lower.proofs.initializers.initialize_all.Given as goal

-- what the locals left take, behind those so far, all take
abbrev pub invariant-loop-local : goal.invariant-loop-local
invariant-loop-local l = (final : Emitter) (r : Result ⊤ LowerRefusal)
    → Emits nothing (rows_of l.at) l.out final r (Locals (inside_view l.at) (types_of l.at) (drop l.local-index l.locals))
    → Emits nothing (rows_of l.at) l.fn.out final r (Locals (inside_view l.at) (types_of l.at) l.locals)
