-- Functions with the classes of their instructions.
use Rattle.std.specs.Prelude.{◌≡◌, ℕ, ◌≤◌, List, length, Some, slice_get}
use Rattle.mid_code.specs.declared.class.Class.{Class}
use Rattle.mid_code.specs.declared.program.MidFunction.{MidFunction}

-- a class for each instruction of a function, which has no more than a function can have
pub record HasClasses (cs : List Class) (f : MidFunction) : Type 0 where
  pub each : length cs ≡ length f.code
  pub few : length f.code ≤ 65535

pub record HaveClasses (rows : List (List Class)) (fs : List MidFunction) : Type 0 where
  pub count : length rows ≡ length fs
  pub each : (index : ℕ) (cs : List Class) (f : MidFunction) → slice_get rows index ≡ Some cs → slice_get fs index ≡ Some f → HasClasses cs f
