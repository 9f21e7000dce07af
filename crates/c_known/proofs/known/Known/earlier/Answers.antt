use Rattle.std.proofs.Common.{ap, ◌∙◌}
use Rattle.std.specs.Option.{option_map}
use Rattle.c_types.specs.Table.{type_at}
use Rattle.c_entities.specs.Views.{linked_view}
use Rattle.c_known.specs.Standing.{MeansLinkedIf}
use Rattle.c_known.proofs.Binding.{asks-gives}
use Rattle.c_known.proofs.Lookups.{earlier-by, linked-if}
use Rattle.c_known.proofs.known.Known.earlier.Goals as goal

pub returns : goal.returns
returns c = asks-gives MeansLinkedIf c.args.self.now c.lookup_here.result _ (λ k h.
    linked-if c.args.self.now.types c.lookup_here.result _ (λ later e.
    ap (option_map (linked_view (type_at later))) c.lookup_here.ensures
    ∙ earlier-by (type_at later) c.args.name.now c.args.self.now.names k.file_scope (h.file_scope later e)))
