use Rattle.c_types.specs.Table.{type_at}
use Rattle.c_meaning.proofs.NamesAndRows.{text_is_value}
use Rattle.c_meaning.proofs.KnownPlaces.{text_few, local_address, static_address, text_address, no_address}
use Rattle.c_meaning.proofs.store.Stored.address.Goals as goal

pub address_of_text-requires : goal.address_of_text-requires
address_of_text-requires c =
    let p = c.args.at.program.now in
    text_is_value c.args.at.current.part p c.in-Text.number c.requires.can
    (text_few (type_at p.types) c.args.place.now c.in-Text.number c.in-Text.is c.requires.has)

pub returns-in-Local-clause-exact : goal.returns-in-Local-clause-exact
returns-in-Local-clause-exact c =
    local_address (type_at c.args.at.program.now.types) c.args.place.now c.args.at c.args.self.now c.in-Local.number c.address_of_local.result
    c.in-Local.is c.address_of_local.ensures.value

pub returns-in-Static-clause-exact : goal.returns-in-Static-clause-exact
returns-in-Static-clause-exact c =
    static_address (type_at c.args.at.program.now.types) c.args.place.now c.args.at c.args.self.now c.in-Static.entity c.value_of_entity.result
    c.in-Static.is (λ bound. c.value_of_entity.ensures.value)

pub returns-in-Text-clause-exact : goal.returns-in-Text-clause-exact
returns-in-Text-clause-exact c =
    text_address (type_at c.args.at.program.now.types) c.args.place.now c.args.at c.args.self.now c.in-Text.number c.address_of_text.result c.in-Text.is
    (λ bound. c.address_of_text.ensures.value)

pub returns-in-Pointed-clause-exact : goal.returns-in-Pointed-clause-exact
returns-in-Pointed-clause-exact c = no_address (type_at c.args.at.program.now.types) c.args.place.now c.args.at c.args.self.now c.in-Pointed.is

pub returns-in-Pointed-2-clause-exact : goal.returns-in-Pointed-2-clause-exact
returns-in-Pointed-2-clause-exact c = no_address (type_at c.args.at.program.now.types) c.args.place.now c.args.at c.args.self.now c.in-Pointed.is
