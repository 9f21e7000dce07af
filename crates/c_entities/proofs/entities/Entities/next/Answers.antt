use Rattle.std.proofs.Common.{length, map, sym, ap, ◌∙◌}
use Rattle.std.proofs.lemmas.List.{length-map}
use Rattle.c_types.specs.Table.{type_at}
use Rattle.c_entities.specs.Views.{entity_view}
use Rattle.c_types.proofs.Grown.{Extends-refl}
use Rattle.c_entities.proofs.entities.Entities.next.Goals as goal

pub returns-in-Ok : goal.returns-in-Ok
returns-in-Ok c rows k are =
    let x = c.args.self.now.rows in
    c.in-Ok.ensures.1 ∙ c.len.ensures ∙ x.ok.0 ∙ sym (length-map x.items (entity_view (type_at rows))) ∙ ap length (are.each rows (Extends-refl rows))
