-- The registers that a call passes, as a list.
use Rattle.std.specs.Prelude.{ℕ, List, take}
use Rattle.mid_code.specs.declared.registers.Registers.{Registers}

-- the numbers in their order: the first `count` of the row
abbrev pub registers_list : Registers → List ℕ
registers_list args = take args.count args.numbers
