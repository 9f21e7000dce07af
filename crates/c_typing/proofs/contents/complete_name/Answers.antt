use Rattle.std.proofs.Common.{ap}
use Rattle.c_types.proofs.Grown.{Extends-refl}
use Rattle.typing_rules.specs.DeclarationRules.{composed}
use Rattle.c_linkage.proofs.Linked.{linked-type, means-linked}
use Rattle.c_typing.proofs.contents.complete_name.Goals as goal

pub returns : goal.returns
returns c l t means stands =
    let rows = c.args.known.now.types in
    let first = linked-type rows c.args.linked l means in
    c.declare_at_file.ensures (record { entity = l.entity; type = composed l.type t })
    (means-linked rows rows (Extends-refl rows) (record { entity = c.args.linked.entity; ty = record { qualifiers = c.args.linked.ty.qualifiers; target = c.composite.result } })
    (record { entity = l.entity; type = composed l.type t }) (ap (λ z. z.entity) (means.always rows (Extends-refl rows)))
    (record { qualifiers = first.qualifiers; type = c.composite.ensures l.type.type t.type first.type stands.type }))
