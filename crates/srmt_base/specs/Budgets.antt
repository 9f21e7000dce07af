-- What is left to the functions of a part: turns and live activations. Both parts have budgets of equal size.
use Rattle.std.specs.Prelude.{◌+◌, ◌-◌, ◌==◌, if◌then◌else◌, Result, Ok, Err}
use Rattle.srmt_base.specs.declared.budgets.Budget.{Budget}
use Rattle.srmt_base.specs.declared.budgets.Budgets.{Budgets}
use Rattle.srmt_base.specs.declared.limits.Limits.{Limits}
use Rattle.srmt_base.specs.declared.part.Part.{Part}
use Rattle.srmt_base.specs.declared.part.Part.TheVariants.{Protected, Binary}
use Rattle.srmt_base.specs.declared.trap.Trap.{Trap}
use Rattle.srmt_base.specs.declared.trap.Trap.TheVariants.{Turns, Depth}

-- all that the limits allow
abbrev pub full_budget : Limits → Budget
full_budget limits = record { turns = limits.turns; depth = limits.depth }

abbrev pub full_budgets : Limits → Budgets
full_budgets limits = record { protected = full_budget limits; binary = full_budget limits }

-- after a turn, unless none is left
abbrev pub after_turn : Budget → Result Budget Trap
after_turn budget = if budget.turns == 0 then Err Turns else Ok (record budget { turns = budget.turns - 1 })

-- after the entry of a function, which is one live activation and one turn. Depth is tested first
abbrev pub spent : Budget → Budget
spent budget = record { turns = budget.turns - 1; depth = budget.depth - 1 }

abbrev pub after_entry : Budget → Result Budget Trap
after_entry budget = if budget.depth == 0 then Err Depth else if budget.turns == 0 then Err Turns else Ok (spent budget)

-- after a function was left: its activation no longer counts
abbrev pub after_leave : Budget → Budget
after_leave budget = record budget { depth = budget.depth + 1 }

-- the budget of a part
abbrev pub budget_of : Part → Budgets → Budget
budget_of Protected budgets = budgets.protected
budget_of Binary budgets = budgets.binary

abbrev pub with_budget : Part → Budget → Budgets → Budgets
with_budget Protected budget budgets = record budgets { protected = budget }
with_budget Binary budget budgets = record budgets { binary = budget }

-- both parts' with what became of one of them, or its trap
abbrev pub with_result : Part → Budgets → Result Budget Trap → Result Budgets Trap
with_result part budgets (Ok budget) = Ok (with_budget part budget budgets)
with_result part budgets (Err trap) = Err trap

-- both after one of these in a part
abbrev pub turn_of : Part → Budgets → Result Budgets Trap
turn_of part budgets = with_result part budgets (after_turn (budget_of part budgets))

abbrev pub enter_of : Part → Budgets → Result Budgets Trap
enter_of part budgets = with_result part budgets (after_entry (budget_of part budgets))

abbrev pub leave_of : Part → Budgets → Budgets
leave_of part budgets = with_budget part (after_leave (budget_of part budgets)) budgets
