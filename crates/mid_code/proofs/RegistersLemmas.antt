-- The registers that a call passes are known by their list.
use Rattle.std.proofs.Common.{◌≡◌, length, arith}
use Rattle.std.proofs.lemmas.List.{length-take-le}
use Rattle.mid_code.specs.declared.registers.Registers.{Registers}
use Rattle.mid_code.specs.Registers.{registers_list}

-- the list is as long as the count says
pub length-registers_list : (args : Registers) → length (registers_list args) ≡ args.count
length-registers_list args = length-take-le args.count args.numbers (omega (arith, args.room, args.within))
