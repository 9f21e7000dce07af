use Rattle.std.proofs.Common.{Result}
use Rattle.std.specs.Bool.{⊤}
use Rattle.typing_rules.specs.declared.refusal.TypeRefusal.{TypeRefusal}
use Rattle.c_known.specs.declared.known.Known.{Known}
use Rattle.c_known.specs.Views.{line_in}
use Rattle.c_known.specs.Gives.{Gives, IsDone}
use Rattle.c_declarations.proofs.Insides.{insides_from}
use Rattle.c_declarations.proofs.none.+insides.Given as goal

-- what the rest gives, all give
abbrev pub invariant-all_insides-loop-item : goal.invariant-all_insides-loop-item
invariant-all_insides-loop-item l =
    (new : Known) (r : Result ⊤ TypeRefusal) → Gives IsDone l.known new r (insides_from (line_in l.file) l.items l.item-index)
    → Gives IsDone l.fn.known new r (insides_from (line_in l.file) l.items 0)
