use Rattle.lower.specs.Emits.{located_view}
use Rattle.lower.proofs.Accesses.{store-told}
use Rattle.lower.proofs.Steps.{same-making}
use Rattle.lower.proofs.emitter.Emitter.put.Goals as goal

-- src
pub returns : goal.returns
returns c =
    λ rows. same-making (store-told (located_view c.args.located) c.args.line c.args.source c.store_of-told.result c.store_of-told.ensures)
    (c.emit.ensures rows)
