use Rattle.std.proofs.Common.{ap, ◌∙◌, slice_get, option_map}
use Rattle.c_types.specs.Table.{type_at}
use Rattle.c_entities.specs.Views.{entity_view}
use Rattle.c_entities.proofs.Rows.{row-at, lent-is}
use Rattle.c_entities.proofs.entities.Entities.get.Goals as goal

pub returns : goal.returns
returns c rows k are =
    ap (option_map (entity_view (type_at rows))) (lent-is _ c.args.number c.get.result c.get.ensures.lookup ∙ ap (λ l. slice_get l c.args.number) c.deref.ensures.value)
    ∙ row-at rows c.args.self.now k.entities k.declared are c.args.number
