use Rattle.std.proofs.Common.{◌≡◌, List, map, drop}
use Rattle.c_types.specs.Types.{CType}
use Rattle.c_types.specs.Table.{type_at}
use Rattle.c_typed.specs.StatementViews.{function_view}
use Rattle.lower.specs.Emits.{AllStand}
use Rattle.lower.specs.Functions.{AreTypes}
use Rattle.lower.specs.Programs.{all_types}
use Rattle.lower.proofs.types.add_types.Given as goal

abbrev pub invariant-loop-function : goal.invariant-loop-function
invariant-loop-function l =
    (before : List CType) → AreTypes l.types l.fn.known.keys before
    → record {
      stand : AllStand l.types l.known.keys;
      rest : all_types (map (type_at l.types) l.known.keys) (map (function_view (type_at l.types)) (drop l.function-index l.functions))
          ≡ all_types before (map (function_view (type_at l.types)) l.functions);
    }
