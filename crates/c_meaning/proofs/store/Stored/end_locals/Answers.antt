use Rattle.std.proofs.Common.{◌∙◌, sym}
use Rattle.c_meaning.specs.Runs.{setting_of, types_of, world_of}
use Rattle.c_meaning.proofs.LocalLives.{end_last, end_done}
use Rattle.c_meaning.proofs.store.Stored.end_locals.Goals as goal

pub loop-local-preserved : goal.loop-local-preserved
loop-local-preserved c = record {
  rest = λ bound es.
      sym (end_last (setting_of bound c.args.at) (types_of c.args.at.program.now) c.loop-local.local-iterator.iter.rest.now c.next.new.self.iter.rest.now
      c.in-Some.local.now
      (world_of c.loop-local.self es) (world_of c.end.new.self es) c.in-Some.ensures.steps (c.end.ensures.leaves bound es))
      ∙ c.loop-local.invariant.rest bound es;
  budgets = c.end.ensures.budgets ∙ c.loop-local.invariant.budgets;
}

pub returns-clause-leaves : goal.returns-clause-leaves
returns-clause-leaves c = λ bound es.
    sym (c.loop-local.invariant.rest bound es)
    ∙ end_done (setting_of bound c.args.at) (types_of c.args.at.program.now) c.loop-local.local-iterator.iter.rest.now (world_of c.loop-local.self es)
    c.in-None.ensures.steps.0
