use Rattle.std.proofs.Common.{◌∙◌, ◌<◌, ◌≤◌, ℕ, sym, ap, subst, length, Err}
use Rattle.std.proofs.lemmas.Result.{err_from_is_err_and}
use Rattle.source_meaning.specs.Calls.{parameters_begin}
use Rattle.c_meaning.specs.Entering.{takes}
use Rattle.c_meaning.specs.Runs.{setting_of, world_of}
use Rattle.c_meaning.proofs.LocalLives.{changes_err}
use Rattle.c_meaning.proofs.Parameters.{parameters_more, parameters_stop, parameters_done}
use Rattle.c_meaning.proofs.store.Stored.begin_parameters.Goals as goal

pub loop-number-preserved : goal.loop-number-preserved
loop-number-preserved c =
    let low : c.loop-number.number < length c.args.arguments.now =
    subst (λ (l : ℕ). c.loop-number.number < l) c.len-number-end.ensures c.loop-number-test.true in
    record {
      same = λ bound es.
          let s = setting_of bound c.args.at in
          let w = world_of c.loop-number.self es in
          c.loop-number.invariant.same bound es
          ∙ parameters_more s c.loop-number.number c.args.arguments.now w (world_of c.begin_parameter.new.self es) low
          (ap (λ v. takes s c.loop-number.number v w) (sym c.get.ensures.value) ∙ c.in_ok-begin_parameter.ensures.changes bound es);
      budgets = c.begin_parameter.ensures.budgets ∙ c.loop-number.invariant.budgets;
    }

pub returns-in_err-begin_parameter-clause-changes : goal.returns-in_err-begin_parameter-clause-changes
returns-in_err-begin_parameter-clause-changes c = λ bound.
    let s = setting_of bound c.args.at in
    let low : c.loop-number.number < length c.args.arguments.now =
    subst (λ (l : ℕ). c.loop-number.number < l) c.len-number-end.ensures c.loop-number-test.true in
    let exit = err_from_is_err_and c.from_residual.result c.from_residual.ensures.1 in
    changes_err (parameters_begin s 0 c.args.arguments.now) c.args.self.now c.begin_parameter.new.self c.from_residual.result
    c.in_err-begin_parameter.field-0.0 (exit.1 ∙ ap Err exit.2)
    (λ es. c.loop-number.invariant.same bound es
    ∙ parameters_stop s c.loop-number.number c.args.arguments.now (world_of c.loop-number.self es) _ es low
    (ap (λ v. takes s c.loop-number.number v (world_of c.loop-number.self es)) (sym c.get.ensures.value) ∙ c.in_err-begin_parameter.ensures.changes bound es))

pub returns-clause-changes : goal.returns-clause-changes
returns-clause-changes c = λ bound es.
    let high : length c.args.arguments.now ≤ c.loop-number.number =
    subst (λ (l : ℕ). l ≤ c.loop-number.number) c.len-number-end.ensures c.loop-number-test.false in
    c.loop-number.invariant.same bound es
    ∙ parameters_done (setting_of bound c.args.at) c.loop-number.number c.args.arguments.now (world_of c.loop-number.self es) high
