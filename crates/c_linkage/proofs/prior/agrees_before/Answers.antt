use Rattle.std.proofs.Common.{option_map, sym, ap, ◌∙◌}
use Rattle.c_types.specs.Types.{may_be_one}
use Rattle.c_types.specs.Table.{type_at, qualified_at}
use Rattle.typing_rules.specs.DeclarationRules.{agrees_before}
use Rattle.c_entities.specs.Views.{linked_view}
use Rattle.c_linkage.proofs.Linked.{qualified-is, linked-is}
use Rattle.c_linkage.proofs.prior.agrees_before.Goals as goal

pub returns-in-None : goal.returns-in-None
returns-in-None c b t means stands =
    let rows = c.args.types.now in
    ap (λ x. agrees_before x t) (sym (ap (option_map (linked_view (type_at rows))) c.in-None.is) ∙ linked-is rows c.args.before b means)

pub returns-in-Some : goal.returns-in-Some
returns-in-Some c b t means stands =
    let rows = c.args.types.now in
    c.may_be_one.ensures ∙ ap (may_be_one (qualified_at rows c.in-Some.linked.ty)) (qualified-is rows c.args.ty t stands)
    ∙ ap (λ x. agrees_before x t) (sym (ap (option_map (linked_view (type_at rows))) c.in-Some.is) ∙ linked-is rows c.args.before b means)
