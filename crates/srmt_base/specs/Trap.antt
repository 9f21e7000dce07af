-- Codes of traps.
use Rattle.std.specs.Prelude.{ℕ, Bool, true, false}
use Rattle.srmt_base.specs.declared.trap.Trap.{Trap}
use Rattle.srmt_base.specs.declared.trap.Trap.TheVariants.{Overflow, DivideByZero, ShiftRange, NullPointer, OutsideObject, DeadObject, ReadOnly, OtherObject, NotAFunction, Turns, Depth, Store}

-- the code of a trap, 1 to 12
abbrev pub trap_code : Trap → ℕ
trap_code Overflow = 1
trap_code DivideByZero = 2
trap_code ShiftRange = 3
trap_code NullPointer = 4
trap_code OutsideObject = 5
trap_code DeadObject = 6
trap_code ReadOnly = 7
trap_code OtherObject = 8
trap_code NotAFunction = 9
trap_code Turns = 10
trap_code Depth = 11
trap_code Store = 12

-- whether a trap is a budget that was used up, and no undefined behaviour
abbrev pub is_budget : Trap → Bool
is_budget Overflow = false
is_budget DivideByZero = false
is_budget ShiftRange = false
is_budget NullPointer = false
is_budget OutsideObject = false
is_budget DeadObject = false
is_budget ReadOnly = false
is_budget OtherObject = false
is_budget NotAFunction = false
is_budget Turns = true
is_budget Depth = true
is_budget Store = true
