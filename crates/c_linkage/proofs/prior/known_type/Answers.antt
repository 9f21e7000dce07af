use Rattle.std.proofs.Common.{option_map, sym, ap, ◌∙◌, subst}
use Rattle.c_types.specs.Table.{type_at, StandsFor}
use Rattle.typing_rules.specs.DeclarationRules.{type_known}
use Rattle.c_entities.specs.Views.{linked_view}
use Rattle.c_linkage.proofs.Linked.{linked-is}
use Rattle.c_linkage.proofs.Declared.{known-some}
use Rattle.c_linkage.proofs.prior.known_type.Goals as goal

pub returns-in-None : goal.returns-in-None
returns-in-None c b t means stands =
    let rows = c.args.types.now in
    subst (λ x. StandsFor rows c.args.ty (type_known x t)) (sym (ap (option_map (linked_view (type_at rows))) c.in-None.is) ∙ linked-is rows c.args.before b means) stands

pub returns-in-Some : goal.returns-in-Some
returns-in-Some c b t means stands =
    known-some c.args.types.now c.args.before b c.in-Some.linked c.composite.result c.args.ty t c.in-Some.is means stands c.composite.ensures
