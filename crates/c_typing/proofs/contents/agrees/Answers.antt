use Rattle.std.proofs.Common.{ap, subst}
use Rattle.c_types.specs.Table.{StandsFor}
use Rattle.c_types.proofs.Grown.{Extends-refl}
use Rattle.typing_rules.specs.Known.{entity_at}
use Rattle.c_linkage.proofs.Linked.{linked-type}
use Rattle.c_typing.proofs.Starts.{agreeing}
use Rattle.c_typing.proofs.contents.agrees.Goals as goal

pub returns-then-may_be_one : goal.returns-then-may_be_one
returns-then-may_be_one c l t means stands k are =
    let rows = c.args.known.now.types in
    agreeing rows c.args.ty c.args.linked.ty c.type_of.result t l.type (entity_at k.entities l.entity).type c.may_be_one.result c.may_be_one-then-may_be_one.result
    stands (linked-type rows c.args.linked l means)
    (subst (λ n. StandsFor rows c.type_of.result (entity_at k.entities n).type) (ap (λ z. z.entity) (means.always rows (Extends-refl rows))) (c.type_of.ensures rows k are))
    c.may_be_one.ensures c.if-may_be_one.true c.may_be_one-then-may_be_one.ensures
