use Rattle.std.proofs.Common.{◌≡◌, ◌∙◌, ◌-◌, ◌+◌, suc, refl, ap, arith}
use Rattle.source_meaning.specs.Calls.{numbers_below}
use Rattle.source_meaning.specs.Places.{all_end}
use Rattle.c_meaning.specs.Runs.{setting_of, world_of}
use Rattle.c_meaning.proofs.Parameters.{parameter_ends}
use Rattle.c_meaning.proofs.store.Stored.end_parameters.Goals as goal

pub loop-ended-init : goal.loop-ended-init
loop-ended-init c =
    let n = c.args.at.current.function.now.parameters in
    let is : n ≡ n - 0 = omega arith in
    record {
      same = λ bound es. ap (λ k. all_end (setting_of bound c.args.at) (numbers_below k) (world_of c.args.self.now es)) is;
      budgets = refl;
    }

pub loop-ended-preserved : goal.loop-ended-preserved
loop-ended-preserved c =
    let n = c.args.at.current.function.now.parameters in
    let now : n - c.loop-ended.ended ≡ suc (n - 1 - c.loop-ended.ended) = omega arith in
    let next : n - 1 - c.loop-ended.ended ≡ n - (c.loop-ended.ended + 1) = omega arith in
    record {
      same = λ bound es.
          let s = setting_of bound c.args.at in
          c.loop-ended.invariant.same bound es
          ∙ parameter_ends s (n - c.loop-ended.ended) (n - 1 - c.loop-ended.ended) (world_of c.loop-ended.self es) (world_of c.end.new.self es) now
          (c.end.ensures.leaves bound es)
          ∙ ap (λ k. all_end s (numbers_below k) (world_of c.end.new.self es)) next;
      budgets = c.end.ensures.budgets ∙ c.loop-ended.invariant.budgets;
    }

pub returns-clause-leaves : goal.returns-clause-leaves
returns-clause-leaves c = λ bound es.
    let n = c.args.at.current.function.now.parameters in
    let done : n - c.loop-ended.ended ≡ 0 = omega arith in
    c.loop-ended.invariant.same bound es
    ∙ ap (λ k. all_end (setting_of bound c.args.at) (numbers_below k) (world_of c.loop-ended.self es)) done
