use Rattle.std.proofs.Common.{List, map, drop, Result}
use Rattle.c_typed.specs.declared.program.Function as code_function
use Rattle.c_typed.specs.Statements as t
use Rattle.typing_rules.specs.declared.refusal.TypeRefusal.{TypeRefusal}
use Rattle.typing_rules.specs.SourceViews.{external_view}
use Rattle.typing_rules.specs.OrderedUnits.{externals_of}
use Rattle.c_known.specs.declared.known.Known.{Known}
use Rattle.c_known.specs.Views.{line_in}
use Rattle.c_known.specs.Gives.{Gives}
use Rattle.c_typing.specs.Files.{AreFunctions}
use Rattle.c_typing.specs.Steps.{externals_onto}
use Rattle.c_typing.proofs.file.externals.Given as goal

-- whatever the declarations that are left give behind the functions so far, all give
abbrev pub invariant-loop-x : goal.invariant-loop-x
invariant-loop-x l =
    (new : Known) (r : Result (List code_function.Function) TypeRefusal)
    → ((fs : List t.Function) → AreFunctions l.known.types l.made fs → Gives AreFunctions l.known new r (externals_onto fs (map (external_view (line_in l.file)) (drop l.x-index l.xs))))
    → Gives AreFunctions l.initial.known new r (externals_of (map (external_view (line_in l.file)) l.xs))
