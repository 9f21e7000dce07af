-- The world's fields as its state.
use Rattle.std.specs.Prelude.{ℕ, Bool, true, false, List}
use Rattle.world.specs.World.{WorldState, Lives, Over}

abbrev pub world_of : Bool → List ℕ → WorldState
world_of true input = Lives (record { input = input })
world_of false input = Over
