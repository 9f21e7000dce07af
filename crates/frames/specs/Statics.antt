-- Static objects as they are set up.
use Rattle.std.specs.Prelude.{ℕ, ◌+◌, ◌-◌, ◌^◌, ◌<◌, ◌≤◌, ◌++◌, ◌∷◌, [], length, take, replicate, All}
use Rattle.srmt_base.specs.Objects.{Objects}
use Rattle.srmt_base.specs.declared.statics.Static.{Static}

-- an object has a cell, and a cell for each of its values, which are numbers of 44 bits
pub record IsSound (object : Static) : Type 0 where
  pub some : 1 ≤ object.cells
  pub values : length object.values ≤ object.cells
  pub small : All (λ v. v < 2 ^ 44) object.values

-- the objects with a static one behind them, of whose values so many are set up
abbrev pub with_static : Objects → ℕ → Static → ℕ → Objects
with_static s number object done =
    record s {
      fresh = number + 1;
      live = s.live ++ record { number = number; cells = take done object.values ++ replicate (object.cells - done) 0; read_only = object.read_only } ∷ [];
    }
