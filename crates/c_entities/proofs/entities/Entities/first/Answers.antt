use Rattle.std.proofs.Common.{option_map, slice_get, sym, ap, ◌∙◌}
use Rattle.std.proofs.lemmas.Option.{slice_get-map}
use Rattle.c_entities.specs.Views.{first_view}
use Rattle.c_entities.proofs.entities.Entities.first.Goals as goal

pub returns-in-None : goal.returns-in-None
returns-in-None c rows k are =
    ap (option_map first_view) c.in-None.ensures.entry ∙ sym (slice_get-map first_view c.args.self.now.declared.entries c.args.index) ∙ ap (λ l. slice_get l c.args.index) are.first

pub returns-in-Some : goal.returns-in-Some
returns-in-Some c rows k are =
    ap (option_map first_view) c.in-Some.ensures.entry ∙ sym (slice_get-map first_view c.args.self.now.declared.entries c.args.index) ∙ ap (λ l. slice_get l c.args.index) are.first
