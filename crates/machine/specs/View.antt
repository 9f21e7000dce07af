-- The machine's fields as where the side stands. No instruction of the first form begins an object.
use Rattle.std.specs.Prelude.{[]}
use Rattle.machine.specs.declared.machine.Machine.TheInside.{Inside}
use Rattle.machine.specs.Side.{SideState}

abbrev pub side_of : Inside → SideState
side_of a = record {
  at = record { machine = a.frames.machine; own = record { count = record { fresh = a.fresh; cells = a.cells; budget = a.budget }; live = [] } };
  heard = a.heard;
}
