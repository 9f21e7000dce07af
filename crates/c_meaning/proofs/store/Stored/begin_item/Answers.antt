use Rattle.c_meaning.specs.Runs.{setting_of, types_of, world_of}
use Rattle.c_meaning.proofs.LocalLives.{declaration_begins, statement_begins}
use Rattle.c_meaning.proofs.store.Stored.begin_item.Goals as goal

pub returns-in-Declaration-clause-changes : goal.returns-in-Declaration-clause-changes
returns-in-Declaration-clause-changes c = λ bound.
    declaration_begins (setting_of bound c.args.at) (types_of c.args.at.program.now) c.args.item.now _ c.as_slice.result.now c.args.self.now
    c.begin_locals.new.self c.begin_locals.result
    c.in-Declaration.is c.as_slice.ensures (c.begin_locals.ensures.changes bound)

pub returns-in-Statement-clause-changes : goal.returns-in-Statement-clause-changes
returns-in-Statement-clause-changes c = λ bound es.
    statement_begins (setting_of bound c.args.at) (types_of c.args.at.program.now) c.args.item.now _ (world_of c.args.self.now es) c.in-Statement.is
