use Rattle.std.proofs.Common.{◌∙◌}
use Rattle.c_types.specs.Table.{type_at}
use Rattle.c_meaning.specs.Runs.{setting_of}
use Rattle.c_meaning.proofs.KnownPlaces.{local_located, other_found, element_found}
use Rattle.c_meaning.proofs.setting.At.located.Goals as goal

pub returns-in-Local-clause-exact : goal.returns-in-Local-clause-exact
returns-in-Local-clause-exact c = λ bound.
    c.local.ensures.exact bound ∙ local_located (type_at c.args.self.program.now.types) c.args.place.now (setting_of bound c.args.self) c.in-Local.number
    c.args.address c.in-Local.is

pub returns-in-Element-clause-exact : goal.returns-in-Element-clause-exact
returns-in-Element-clause-exact c = λ bound.
    element_found (type_at c.args.self.program.now.types) c.args.place.now (setting_of bound c.args.self) c.in-Element.line c.args.address _ _ _
    c.cell.result c.in-Element.is c.cell.ensures

pub returns-in-Static-clause-exact : goal.returns-in-Static-clause-exact
returns-in-Static-clause-exact c = λ bound.
    other_found (type_at c.args.self.program.now.types) c.args.place.now (setting_of bound c.args.self) c.args.address c.cell-in-Static.result
    c.in-Static.is c.cell-in-Static.ensures
