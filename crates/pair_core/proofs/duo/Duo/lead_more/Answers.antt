use Rattle.std.proofs.Common.{sym, ◌∙◌, subst}
use Rattle.srmt_base.specs.declared.side.Side.TheVariants.{Lead}
use Rattle.machine.specs.Quiet.{QuietSteps}
use Rattle.pair_core.proofs.MoreTurns.{lead_more}
use Rattle.pair_core.proofs.duo.Duo.lead_more.Goals as goal

pub returns-clause-more : goal.returns-clause-more
returns-clause-more c =
    let steps = subst (λ n. QuietSteps Lead c.args.pair.now n c.self.inside.lead c.run_copied-steps.new.m) (sym c.from.ensures) c.run_copied-steps.ensures.steps in
    (c.from.result, lead_more c.args.pair.now c.self.inside c.args.self.now c.self.view_is c.from.result c.run_copied-steps.new.m (sym c.is_some.ensures ∙ c.if-is_some.false) steps)
