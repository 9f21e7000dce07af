use Rattle.source_meaning.proofs.BudgetsExact.{takes_turn, takes_entry, takes_cells}
use Rattle.source_meaning.proofs.laws.budgets_are_exact.Goals as goal

pub returns-clause-turns : goal.returns-clause-turns
returns-clause-turns c = λ part line w. takes_turn part line w

pub returns-clause-activations : goal.returns-clause-activations
returns-clause-activations c = λ part line w. takes_entry part line w

pub returns-clause-cells : goal.returns-clause-cells
returns-clause-cells c = λ s n w. takes_cells s n w
