use Rattle.std.proofs.Common.{sym, ◌∙◌}
use Rattle.answers.proofs.pen.Pen.stopped.Goals as goal

pub returns-then-is_budget-clause-wrote : goal.returns-then-is_budget-clause-wrote
returns-then-is_budget-clause-wrote g c = rw (sym c.is_budget.ensures ∙ c.if-is_budget.true) c.exhausted.ensures.wrote

pub returns-else-is_budget-clause-wrote : goal.returns-else-is_budget-clause-wrote
returns-else-is_budget-clause-wrote g c = rw (sym c.is_budget.ensures ∙ c.if-is_budget.false) c.undefined.ensures.wrote
