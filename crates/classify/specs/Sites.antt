-- Words of the contracts of what gives the sites.
use Rattle.std.specs.Prelude.{◌≡◌, ℕ, ◌≤◌, length}
use Rattle.mid_code.specs.declared.class.Class.{Class}
use Rattle.mid_code.specs.declared.class.Class.TheVariants.{Repeatable, NonRepeatable, FailStop}
use Rattle.mid_code.specs.Classes.{SharedProgram}

-- it is told of each function of the main file what is shared, and there is one
pub record HasRows (p : SharedProgram) : Type 0 where
  pub some : 1 ≤ p.program.main_functions
  pub functions : p.program.main_functions ≤ length p.program.functions
  pub rows : length p.shared ≡ p.program.main_functions

-- how many sites an instruction of a class takes
abbrev pub sites_in : Class → ℕ
sites_in Repeatable = 0
sites_in (NonRepeatable site) = 1
sites_in (FailStop site) = 1
