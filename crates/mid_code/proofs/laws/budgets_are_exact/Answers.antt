use Rattle.mid_code.proofs.BudgetsExact.{counts_exactly}
use Rattle.mid_code.proofs.laws.budgets_are_exact.Goals as goal

pub returns : goal.returns
returns c = counts_exactly
