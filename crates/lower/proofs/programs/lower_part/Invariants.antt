use Rattle.std.proofs.Common.{List, map, drop}
use Rattle.c_types.specs.Types.{CType}
use Rattle.c_types.specs.Table.{type_at}
use Rattle.c_typed.specs.StatementViews.{function_view, program_view}
use Rattle.source_meaning.specs.Places.{file_of}
use Rattle.lower.specs.Functions.{AreTypes}
use Rattle.lower.specs.Programs.{lowered_functions}
use Rattle.lower.proofs.LoweredFunctions.{ReachesWith}
use Rattle.lower.proofs.programs.lower_part.Given as goal

abbrev pub invariant-loop-function : goal.invariant-loop-function
invariant-loop-function l =
    (types : List CType) → AreTypes l.program.types l.fn.known.keys types
    → ReachesWith l.known l.program.types (program_view l.program) l.part l.fn.lowered.items l.lowered.items
    (map (function_view (type_at l.program.types)) (drop l.function-index l.function-items))
    (lowered_functions (program_view l.program) l.part (file_of l.part (program_view l.program)).functions types)
