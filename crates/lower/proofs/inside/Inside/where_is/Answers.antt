use Rattle.std.proofs.Common.{true, false}
use Rattle.lower.proofs.PlacesFound.{local_found, memory_found, element_found}
use Rattle.lower.proofs.inside.Inside.where_is.Goals as goal

pub returns-then-row : goal.returns-then-row
returns-then-row c = local_found c.args.self c.args.place.now c.in-Local.number c.row.result true c.in-Local.is c.row.ensures c.if-row.true

pub returns-else-row : goal.returns-else-row
returns-else-row c = local_found c.args.self c.args.place.now c.in-Local.number c.row.result false c.in-Local.is c.row.ensures c.if-row.false

pub returns-in-Element : goal.returns-in-Element
returns-in-Element c =
    element_found c.args.self c.args.place.now c.in-Element.at c.in-Element.field-1 c.in-Element.field-2 c.in-Element.field-3 c.in-Element.is

pub returns-in-Static : goal.returns-in-Static
returns-in-Static c = memory_found c.args.self c.args.place.now c.in-Static.is
