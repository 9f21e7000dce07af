use Rattle.std.proofs.Common.{sym, ap, ◌∙◌}
use Rattle.c_types.specs.Types.{may_be_one}
use Rattle.c_types.specs.Table.{qualified_at}
use Rattle.c_types.proofs.Grown.{Extends-refl}
use Rattle.typing_rules.specs.DeclarationRules.{agrees_with}
use Rattle.c_entities.proofs.entities.Entities.agrees_with.Goals as goal

pub returns-in-Some : goal.returns-in-Some
returns-in-Some c k are =
    let rows = c.args.types.now in
    let before = c.type_of.ensures rows k are in
    c.may_be_one.ensures
    ∙ (λ i. may_be_one (record { qualifiers = before.qualifiers i; type = before.type.always rows (Extends-refl rows) i }) (qualified_at rows c.args.ty))
    ∙ sym (ap (λ o. agrees_with o (qualified_at rows c.args.ty) k.entities) c.in-Some.is)
