use Rattle.c_meaning.specs.Runs.{setting_of, types_of, world_of}
use Rattle.c_meaning.proofs.LocalLives.{declaration_ends, statement_ends}
use Rattle.c_meaning.proofs.store.Stored.end_item.Goals as goal

pub returns-in-Declaration-clause-leaves : goal.returns-in-Declaration-clause-leaves
returns-in-Declaration-clause-leaves c = λ bound.
    declaration_ends (setting_of bound c.args.at) (types_of c.args.at.program.now) c.args.item.now _ c.as_slice.result.now c.args.self.now c.end_locals.new.self
    c.in-Declaration.is c.as_slice.ensures (c.end_locals.ensures.leaves bound)

pub returns-in-Statement-clause-leaves : goal.returns-in-Statement-clause-leaves
returns-in-Statement-clause-leaves c = λ bound es.
    statement_ends (setting_of bound c.args.at) (types_of c.args.at.program.now) c.args.item.now _ (world_of c.args.self.now es) c.in-Statement.is
