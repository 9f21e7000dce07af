use Rattle.std.proofs.Common.{ap, ◌∙◌}
use Rattle.std.specs.Option.{option_map}
use Rattle.c_types.specs.Table.{type_at}
use Rattle.typing_rules.specs.Known.{found_in, innermost}
use Rattle.c_scopes.specs.Scopes as code
use Rattle.c_known.specs.Views.{meaning_view}
use Rattle.c_known.specs.Standing.{MeansMeaningIf}
use Rattle.c_known.proofs.Binding.{asks-gives}
use Rattle.c_known.proofs.Lookups.{found-by, innermost-by, meaning-if}
use Rattle.c_known.proofs.known.Known.found_here.Goals as goal

pub returns : goal.returns
returns c = asks-gives MeansMeaningIf c.args.self.now c.lookup_here.result _ (λ k h.
    meaning-if c.args.self.now.types c.lookup_here.result _ (λ later e.
    ap (option_map (meaning_view (type_at later))) c.lookup_here.ensures
    ∙ found-by (meaning_view (type_at later)) c.args.name.now (code.innermost c.args.self.now.blocks)
    ∙ ap (found_in c.args.name.now) (innermost-by (meaning_view (type_at later)) c.args.self.now.blocks ∙ ap innermost (h.scopes later e))))
