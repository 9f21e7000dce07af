use Rattle.std.proofs.Common.{◌∙◌, sym, ap, Err}
use Rattle.std.proofs.lemmas.Result.{err_from_is_err_and}
use Rattle.source_meaning.specs.Places.{all_begin}
use Rattle.c_meaning.specs.Runs.{setting_of, types_of, world_of}
use Rattle.c_meaning.proofs.LocalLists.{numbers}
use Rattle.c_meaning.proofs.LocalLives.{changes_err, begin_next, begin_stops, begin_done}
use Rattle.c_meaning.proofs.store.Stored.begin_locals.Goals as goal

pub loop-local-preserved : goal.loop-local-preserved
loop-local-preserved c = record {
  rest = λ bound es.
      sym (begin_next (setting_of bound c.args.at) (types_of c.args.at.program.now) c.args.locals.now c.loop-local.local-index c.local-item.result
      (world_of c.loop-local.self es) (world_of c.begin.new.self es) c.loop-local-test.true c.local-item.is (c.in_ok-begin.ensures.changes bound es))
      ∙ c.loop-local.invariant.rest bound es;
  budgets = c.begin.ensures.budgets ∙ c.loop-local.invariant.budgets;
}

pub returns-in_err-begin-clause-changes : goal.returns-in_err-begin-clause-changes
returns-in_err-begin-clause-changes c = λ bound.
    let s = setting_of bound c.args.at in
    let types = types_of c.args.at.program.now in
    let exit = err_from_is_err_and c.from_residual.result c.from_residual.ensures.1 in
    changes_err (all_begin s (numbers types c.args.locals.now)) c.args.self.now c.begin.new.self c.from_residual.result c.in_err-begin.field-0.0
    (exit.1 ∙ ap Err exit.2)
    (λ es. sym (c.loop-local.invariant.rest bound es)
    ∙ begin_stops s types c.args.locals.now c.loop-local.local-index c.local-item.result (world_of c.loop-local.self es) _ es c.loop-local-test.true
    c.local-item.is
    (c.in_err-begin.ensures.changes bound es))

pub returns-clause-changes : goal.returns-clause-changes
returns-clause-changes c = λ bound es.
    sym (c.loop-local.invariant.rest bound es)
    ∙ begin_done (setting_of bound c.args.at) (types_of c.args.at.program.now) c.args.locals.now c.loop-local.local-index (world_of c.loop-local.self es)
    c.loop-local-test.false
