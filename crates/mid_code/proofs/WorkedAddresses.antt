-- Programs whose runs keep addresses, and one whose run does not, by the definition.
use Rattle.std.proofs.Common.{◌≡◌, List, [], ◌∷◌, true, false, refl}
use Rattle.srmt_base.specs.declared.limits.Limits.{Limits}
use Rattle.mid_code.specs.declared.program.RegisterKind.TheVariants.{Number, Address}
use Rattle.mid_code.specs.declared.program.MidLine.{MidLine}
use Rattle.mid_code.specs.declared.program.MidProgram.{MidProgram}
use Rattle.mid_code.specs.declared.mid.Mid.{Mid}
use Rattle.mid_code.specs.declared.mid.Mid.TheVariants.{Const, GlobAddr, Load, Store, Open, Exit}
use Rattle.mid_code.specs.Machine.{does}
use Rattle.mid_code.specs.Keeps.{keeps_addresses}

-- a `main` over two static objects: the first holds the address of the second. Registers 0 to 2 are addresses, and 3 is a number
over : List Mid → MidProgram
over code = record {
  types = record { params = []; result = Number } ∷ [];
  main_functions = 1;
  main = 1;
  main_statics = record { cells = 1; read_only = false; values = 131072 ∷ [] } ∷ record { cells = 1; read_only = false; values = [] } ∷ [];
  binary_statics = [];
  functions = record { ty = 0; kinds = Address ∷ Address ∷ Address ∷ Number ∷ []; line = 1; code = lines code } ∷ [];
} where
  lines : List Mid → List MidLine
  lines [] = []
  lines (mid ∷ rest) = record { line = 1; mid = mid } ∷ lines rest

limits : Limits
limits = record { turns = 1; depth = 1; cells = 3 }

-- an address is put into an object, and taken from there
put_and_taken : MidProgram
put_and_taken = over (GlobAddr 0 2 ∷ Open 1 1 ∷ Store 1 0 ∷ Load 2 1 ∷ Load 3 2 ∷ Exit 3 ∷ [])

keeps : keeps_addresses put_and_taken [] limits ≡ true
unfolding put_and_taken over limits does
keeps = refl

-- the first object has held one from the start
from_the_start : MidProgram
from_the_start = over (GlobAddr 0 1 ∷ Load 1 0 ∷ Load 3 1 ∷ Exit 3 ∷ [])

keeps_start : keeps_addresses from_the_start [] limits ≡ true
unfolding from_the_start over limits does
keeps_start = refl

-- the same address is put there as a number
number_taken : MidProgram
number_taken = over (Const 3 131072 ∷ Open 1 1 ∷ Store 1 3 ∷ Load 2 1 ∷ Load 3 2 ∷ Exit 3 ∷ [])

keeps_not : keeps_addresses number_taken [] limits ≡ false
unfolding number_taken over limits does
keeps_not = refl
