-- A machine stands within its program after an activation has gone on by itself, after a call and after a return.
use Rattle.std.proofs.Common.{◌≡◌, ◌≢◌, ℕ, ◌+◌, ◌<◌, ◌≤◌, List, [], ◌∷◌, length, Option, Some, None, Result, Ok, Err, Bool, true, false, refl, sym, ap, ◌∙◌, subst, arith}
use Rattle.std.specs.Prelude.{All, if◌then◌else◌, ◌==◌}
use Rattle.std.proofs.lemmas.List.{length-set}
use Rattle.std.proofs.lemmas.List.Elements.{All-set}
use Rattle.srmt_base.specs.declared.budgets.Budget.{Budget}
use Rattle.srmt_base.specs.declared.budgets.Budgets.{Budgets}
use Rattle.srmt_base.specs.declared.part.Part.{Part}
use Rattle.srmt_base.specs.declared.part.Part.TheVariants.{Protected, Binary}
use Rattle.srmt_base.specs.declared.trap.Trap.{Trap}
use Rattle.srmt_base.specs.declared.trap.Trap.TheVariants.{Turns, Depth}
use Rattle.srmt_base.specs.Budgets.{budget_of, with_budget, with_result, spent, enter_of, leave_of}
use Rattle.mid_code.specs.declared.program.MidFunction.{MidFunction}
use Rattle.mid_code.specs.declared.program.MidProgram.{MidProgram}
use Rattle.mid_code.specs.Program.{function_at}
use Rattle.mid_code.specs.Valid.{IsValid}
use Rattle.mid_code.specs.Machine.{Activation, Local, Machine, Entry, Entered, Refused, NoFunction, live_of, one_if, part_of_function, local_of, with_local, with_top, activation_of, entry_by, entry_in, enter, resumed, returned_to, returned}
use Rattle.mid_code.specs.Fits.{IsValue, IsWithin, AreBelow, AreLeft, IsMachine}
use Rattle.mid_code.proofs.Values.{first_registers}
use Rattle.mid_code.proofs.Flowing.{none_at_start}
use Rattle.mid_code.proofs.Naming.{not_zero, function_kept}

-- the activations below one, where it changes neither its function nor the register for its result
pub below_same : (program : MidProgram) (a b : Activation) (rest : List Activation) → a.function ≡ b.function → a.into ≡ b.into →
    AreBelow program a rest → AreBelow program b rest
below_same program a b [] function into h = sym function ∙ h
below_same program a b (caller ∷ rest) function into h = (subst (λ r. r < length caller.registers) into h.0, h.1, h.2)

pub live_same : (program : MidProgram) (part : Part) (a b : Activation) (rest : List Activation) → a.function ≡ b.function →
    live_of program part (a ∷ rest) ≡ live_of program part (b ∷ rest)
live_same program part a b rest e = ap (λ f. one_if part (part_of_function program f) + live_of program part rest) e

left_same : (program : MidProgram) (a b : Activation) (rest : List Activation) (budgets : Budgets) → a.function ≡ b.function →
    AreLeft program (a ∷ rest) budgets → AreLeft program (b ∷ rest) budgets
left_same program a b rest budgets e h = record {
  protected = record { turns = h.protected.turns; depth = omega (arith, h.protected.depth, live_same program Protected a b rest e) };
  binary = record { turns = h.binary.turns; depth = omega (arith, h.binary.depth, live_same program Binary a b rest e) };
}

-- the activation that runs changes alone
pub top_changed : (program : MidProgram) (m : Machine) (a : Activation) → IsMachine program m → m.top.function ≡ a.function → m.top.into ≡ a.into →
    IsWithin program a → IsMachine program (with_top a m)
top_changed program m a h function into within = record {
  top = within;
  below = below_same program m.top a m.below function into h.below;
  left = left_same program m.top a m.below m.budgets function h.left;
}

-- an activation that has gone on, with what is left to its part
pub record GoesOn (program : MidProgram) (l next : Local) : Type 0 where
  pub within : IsWithin program next.at
  pub function : l.at.function ≡ next.at.function
  pub into : l.at.into ≡ next.at.into
  pub opened : l.at.opened ≡ next.at.opened
  pub turns : next.budget.turns ≤ l.budget.turns
  pub depth : next.budget.depth ≡ l.budget.depth

less_left : (program : MidProgram) (part : Part) (live : List Activation) (budgets : Budgets) (budget : Budget) →
    budget.turns ≤ (budget_of part budgets).turns → budget.depth ≡ (budget_of part budgets).depth →
    AreLeft program live budgets → AreLeft program live (with_budget part budget budgets)
less_left program Protected live budgets budget turns depth h = record {
  protected = record { turns = omega (arith, turns, h.protected.turns); depth = omega (arith, depth, h.protected.depth) };
  binary = record { turns = h.binary.turns; depth = h.binary.depth };
}
less_left program Binary live budgets budget turns depth h = record {
  protected = record { turns = h.protected.turns; depth = h.protected.depth };
  binary = record { turns = omega (arith, turns, h.binary.turns); depth = omega (arith, depth, h.binary.depth) };
}

-- the frame: with an activation that has gone on the machine stands within its program
pub local_fits : (program : MidProgram) (m : Machine) (next : Local) → IsMachine program m → GoesOn program (local_of program m) next →
    IsMachine program (with_local program next m)
local_fits program m next h on = record {
  top = on.within;
  below = below_same program m.top next.at m.below on.function on.into h.below;
  left = less_left program (part_of_function program m.top.function) (next.at ∷ m.below) m.budgets next.budget on.turns on.depth
      (left_same program m.top next.at m.below m.budgets on.function h.left);
}

-- a function as it begins
pub begins : (program : MidProgram) (number : ℕ) (f : MidFunction) (args : List ℕ) (into : ℕ) → IsValid program →
    function_at program number ≡ Some f → length args ≤ length f.kinds → All IsValue args → IsWithin program (activation_of number f args into)
begins program number f args into valid found room each =
    let k = function_kept program number f valid found in
    let rs = first_registers args (length f.kinds) room each in
    record {
      code = f;
      found = found;
      place = omega (arith, k.long);
      registers = rs.0;
      each = rs.1;
      opened = none_at_start f.code;
    }

-- the entry of a function that is there, by what becomes of the budgets
entry_by_cases : (line : ℕ) (callee : Activation) (callers : List Activation) (P : Entry → Type 0) (r : Result Budgets Trap) →
    ((budgets : Budgets) → r ≡ Ok budgets → P (Entered (record { top = callee; below = callers; budgets = budgets }))) →
    ((trap : Trap) → r ≡ Err trap → P (Refused trap line)) → P (entry_by line callee callers r)
entry_by_cases line callee callers P (Ok budgets) enters refuses = enters budgets refl
entry_by_cases line callee callers P (Err trap) enters refuses = refuses trap refl

pub entry_cases : (program : MidProgram) (function : ℕ) (f : MidFunction) (args : List ℕ) (into : ℕ) (callers : List Activation) (budgets : Budgets) →
    function_at program function ≡ Some f → (P : Entry → Type 0) →
    ((left : Budgets) → enter_of (part_of_function program function) budgets ≡ Ok left →
    P (Entered (record { top = activation_of function f args into; below = callers; budgets = left }))) →
    ((trap : Trap) → enter_of (part_of_function program function) budgets ≡ Err trap → P (Refused trap f.line)) →
    P (enter program function args into callers budgets)
entry_cases program function f args into callers budgets found P enters refuses =
    subst (λ g. P (entry_in program function g args into callers budgets)) (sym found)
    (entry_by_cases f.line (activation_of function f args into) callers P (enter_of (part_of_function program function) budgets) enters refuses)

-- one live activation more
pub live_more : (program : MidProgram) (part own : Part) (a : Activation) (rest : List Activation) → part_of_function program a.function ≡ own →
    live_of program part (a ∷ rest) ≡ one_if part own + live_of program part rest
live_more program part own a rest e = ap (λ p. one_if part p + live_of program part rest) e

spent_left : (program : MidProgram) (part : Part) (callee : Activation) (callers : List Activation) (budgets : Budgets) →
    part_of_function program callee.function ≡ part → 1 ≤ (budget_of part budgets).depth →
    AreLeft program callers budgets → AreLeft program (callee ∷ callers) (with_budget part (spent (budget_of part budgets)) budgets)
spent_left program Protected callee callers budgets own some h = record {
  protected = record {
    turns = omega (arith, h.protected.turns);
    depth = omega (arith, h.protected.depth, some, live_more program Protected Protected callee callers own);
  };
  binary = record { turns = h.binary.turns; depth = omega (arith, h.binary.depth, live_more program Binary Protected callee callers own) };
}
spent_left program Binary callee callers budgets own some h = record {
  protected = record { turns = h.protected.turns; depth = omega (arith, h.protected.depth, live_more program Protected Binary callee callers own) };
  binary = record {
    turns = omega (arith, h.binary.turns);
    depth = omega (arith, h.binary.depth, some, live_more program Binary Binary callee callers own);
  };
}

-- an entry takes a turn and a live activation of its part
spent_by : (part : Part) (budgets left : Budgets) (deep used : Bool) →
    with_result part budgets (if deep then Err Depth else if used then Err Turns else Ok (spent (budget_of part budgets))) ≡ Ok left →
    (deep ≡ false) × (used ≡ false) × (with_budget part (spent (budget_of part budgets)) budgets ≡ left)
spent_by part budgets left true used h = absurd (cc)
spent_by part budgets left false true h = absurd (cc)
spent_by part budgets left false false h = (refl, refl, cc)

pub record Spends (part : Part) (budgets left : Budgets) : Type 0 where
  pub some_depth : 1 ≤ (budget_of part budgets).depth
  pub some_turns : 1 ≤ (budget_of part budgets).turns
  pub left_is : with_budget part (spent (budget_of part budgets)) budgets ≡ left

pub enter_spends : (part : Part) (budgets left : Budgets) → enter_of part budgets ≡ Ok left → Spends part budgets left
enter_spends part budgets left h =
    let budget = budget_of part budgets in
    let of = spent_by part budgets left (budget.depth == 0) (budget.turns == 0) h in
    record { some_depth = not_zero budget.depth of.0; some_turns = not_zero budget.turns of.1; left_is = of.2 }

-- what the entry of a function comes to stands within the program
abbrev pub EntryFits : MidProgram → Entry → Type 0
EntryFits program (Entered machine) = IsMachine program machine
EntryFits program (Refused trap line) = Unit {0}
EntryFits program NoFunction = ⊥

-- a call that finds its function
pub record CallFits (program : MidProgram) (function : ℕ) (args : List ℕ) : Type 0 where
  pub code : MidFunction
  pub found : function_at program function ≡ Some code
  pub room : length args ≤ length code.kinds
  pub values : All IsValue args
  pub other : function ≢ program.main

pub enter_fits : (program : MidProgram) (function : ℕ) (args : List ℕ) (into : ℕ) (callers : List Activation) (budgets : Budgets) →
    IsValid program → (call : CallFits program function args) →
    AreBelow program (activation_of function call.code args into) callers → AreLeft program callers budgets →
    EntryFits program (enter program function args into callers budgets)
enter_fits program function args into callers budgets valid call below left =
    let part = part_of_function program function in
    let callee = activation_of function call.code args into in
    entry_cases program function call.code args into callers budgets call.found (EntryFits program)
    (λ after e.
    let spends = enter_spends part budgets after e in
    record {
      top = begins program function call.code args into valid call.found call.room call.values;
      below = below;
      left = subst (λ b. AreLeft program (callee ∷ callers) b) spends.left_is (spent_left program part callee callers budgets refl spends.some_depth left);
    })
    (λ trap e. tt)

-- a caller with a result
pub resumed_within : (program : MidProgram) (a : Activation) (target value : ℕ) → IsWithin program a → IsValue value →
    IsWithin program (resumed target value a)
resumed_within program a target value w small = record {
  code = w.code;
  found = w.found;
  place = w.place;
  registers = length-set a.registers target value ∙ w.registers;
  each = All-set IsValue a.registers target value small w.each;
  opened = w.opened;
}

left_more : (program : MidProgram) (part : Part) (a : Activation) (rest : List Activation) (budgets : Budgets) → part_of_function program a.function ≡ part →
    AreLeft program (a ∷ rest) budgets → AreLeft program rest (leave_of part budgets)
left_more program Protected a rest budgets own h = record {
  protected = record { turns = h.protected.turns; depth = omega (arith, h.protected.depth, live_more program Protected Protected a rest own) };
  binary = record { turns = h.binary.turns; depth = omega (arith, h.binary.depth, live_more program Binary Protected a rest own) };
}
left_more program Binary a rest budgets own h = record {
  protected = record { turns = h.protected.turns; depth = omega (arith, h.protected.depth, live_more program Protected Binary a rest own) };
  binary = record { turns = h.binary.turns; depth = omega (arith, h.binary.depth, live_more program Binary Binary a rest own) };
}

abbrev pub ReturnFits : MidProgram → Option Machine → Type 0
ReturnFits program (Some machine) = IsMachine program machine
ReturnFits program None = ⊥

returning : (program : MidProgram) (m : Machine) (below : List Activation) (value : ℕ) → AreBelow program m.top below →
    AreLeft program (m.top ∷ below) m.budgets → m.top.function ≢ program.main → IsValue value →
    ReturnFits program (returned_to below (part_of_function program m.top.function) value m)
returning program m [] value below left other small = other below
returning program m (caller ∷ rest) value below left other small =
    let part = part_of_function program m.top.function in
    let after = resumed m.top.into value caller in
    record {
      top = resumed_within program caller m.top.into value below.1 small;
      below = below_same program caller after rest refl refl below.2;
      left = left_same program caller after rest (leave_of part m.budgets) refl (left_more program part m.top (caller ∷ rest) m.budgets refl left);
    }

-- a return of a function that is not `main`
pub returned_fits : (program : MidProgram) (m : Machine) (value : ℕ) → IsMachine program m → m.top.function ≢ program.main → IsValue value →
    ReturnFits program (returned program value m)
returned_fits program m value h other small = returning program m m.below value h.below h.left other small
