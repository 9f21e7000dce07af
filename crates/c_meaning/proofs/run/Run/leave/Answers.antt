use Rattle.std.proofs.Common.{◌∙◌, ◌+◌, ◌-◌, ◌^◌, ◌<◌, ap, sym, subst}
use Rattle.srmt_base.specs.declared.budgets.Budgets.{Budgets}
use Rattle.c_meaning.specs.Runs.{turns_of, depths_of}
use Rattle.c_meaning.proofs.Leaving.{on-ok, depth-within, given-back, same-turns, more-depth, left-gives}
use Rattle.c_meaning.proofs.run.Run.leave.Goals as goal

pub leave-budget-requires : goal.leave-budget-requires
leave-budget-requires c =
    let mid = c.end_parameters.new.self in
    let low : depths_of mid.budgets < 2 ^ 32 - 1 = subst (λ (b : Budgets). depths_of b < 2 ^ 32 - 1) (sym c.end_parameters.ensures.budgets) c.requires.depths in
    record { room = depth-within c.args.at.current.part mid.budgets c.of.result c.of.ensures low }

pub returns-clause-steps : goal.returns-clause-steps
returns-clause-steps c =
    let part = c.args.at.current.part in
    let mid = c.end_parameters.new.self in
    let after-is = given-back part mid.budgets c.with-self.result c.of.result c.leave-budget.result c.of.ensures c.leave-budget.ensures c.with-self.ensures in
    on-ok c.push.result (left-gives c.args.at c.args.self.now.world mid c.args.locals c.with-self.result c.end_parameters.ensures.leaves after-is)

pub returns-clause-turns : goal.returns-clause-turns
returns-clause-turns c =
    let part = c.args.at.current.part in
    let mid = c.end_parameters.new.self in
    let after-is = given-back part mid.budgets c.with-self.result c.of.result c.leave-budget.result c.of.ensures c.leave-budget.ensures c.with-self.ensures in
    on-ok c.push.result (ap turns_of after-is ∙ same-turns part mid.budgets ∙ ap turns_of c.end_parameters.ensures.budgets)

pub returns-clause-depths : goal.returns-clause-depths
returns-clause-depths c =
    let part = c.args.at.current.part in
    let mid = c.end_parameters.new.self in
    let after-is = given-back part mid.budgets c.with-self.result c.of.result c.leave-budget.result c.of.ensures c.leave-budget.ensures c.with-self.ensures in
    on-ok c.push.result (ap depths_of after-is ∙ more-depth part mid.budgets ∙ ap (λ (b : Budgets). depths_of b + 1) c.end_parameters.ensures.budgets)
