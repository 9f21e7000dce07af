use Rattle.std.proofs.Common.{◌∙◌, sym, ap}
use Rattle.c_types.specs.Table.{type_at}
use Rattle.c_typed.specs.Statements.{LocalRow}
use Rattle.c_meaning.proofs.KnownPlaces.{local_register}
use Rattle.c_meaning.proofs.store.Stored.register.Goals as goal

pub returns-else-row-clause-exact : goal.returns-else-row-clause-exact
returns-else-row-clause-exact c =
    let h = c.row.ensures in
    local_register (type_at c.args.at.program.now.types) c.args.place.now c.args.at c.args.self.now c.in-Local.number c.get.result c.in-Local.is
    c.get.ensures.value
    (λ bound. sym (ap (λ (r : LocalRow). r.is_placed) (c.row.ensures bound)) ∙ c.if-row.false)
