-- What an activation does by itself, and what it leaves of its part's budget.
use Rattle.std.proofs.Common.{◌≡◌, ◌+◌, ◌≤◌, refl, sym, ap, ◌∙◌, arith}
use Rattle.srmt_base.specs.declared.budgets.Budget.{Budget}
use Rattle.srmt_base.specs.declared.budgets.Budgets.{Budgets}
use Rattle.srmt_base.specs.declared.part.Part.{Part}
use Rattle.srmt_base.specs.declared.part.Part.TheVariants.{Protected, Binary}
use Rattle.srmt_base.specs.Budgets.{budget_of, with_budget}
use Rattle.mid_code.specs.declared.program.MidProgram.{MidProgram}
use Rattle.mid_code.specs.Machine.{Activation, Machine, goes, local_of, with_local, with_top, part_of_function}
use Rattle.frames.specs.Kept.{Kept, with_machine, depths}
use Rattle.frames.specs.Acts.{HasGone}

-- a part's own budget changes nothing
pub same_budget : (part : Part) (budgets : Budgets) → with_budget part (budget_of part budgets) budgets ≡ budgets
same_budget Protected budgets = refl
same_budget Binary budgets = refl

pub same_left : (program : MidProgram) (m : Machine) (a : Activation) → with_local program (record (local_of program m) { at = a }) m ≡ with_top a m
same_left program m a = ap (λ (b : Budgets). record m { top = a; budgets = b }) (same_budget (part_of_function program m.top.function) m.budgets)

-- the activation alone has changed
pub gone : (program : MidProgram) (before after : Kept) (a : Activation) → after ≡ with_machine (with_top a before.machine) before →
    HasGone program (goes (local_of program before.machine) a) before after
gone program before after a is = record {
  local = record (local_of program before.machine) { at = a };
  goes = refl;
  stands = is ∙ ap (λ (m : Machine). with_machine m before) (sym (same_left program before.machine a));
}

-- how many activations the budgets allow, after one of them has changed
pub depths_with : (part : Part) (budget : Budget) (budgets : Budgets) →
    depths (with_budget part budget budgets) + (budget_of part budgets).depth ≡ depths budgets + budget.depth
depths_with Protected budget budgets = omega arith
depths_with Binary budget budgets = omega arith

pub depth_of : (part : Part) (budgets : Budgets) → (budget_of part budgets).depth ≤ depths budgets
depth_of Protected budgets = omega arith
depth_of Binary budgets = omega arith
