-- The fields of the machine of binary functions as its state.
use Rattle.srmt_base.specs.Args.{args_list}
use Rattle.binary_run.specs.declared.binary.BinaryRun.TheInside.{Inside}
use Rattle.binary_run.specs.declared.binary.Due.{Due}
use Rattle.binary_run.specs.declared.binary.Due.TheVariants as due
use Rattle.binary_run.specs.Binary.{Next, Rests, Enters, Runs, Stopped, BinaryState}

abbrev pub next_of : Due → Next
next_of due.Nothing = Rests
next_of (due.Entry function args) = Enters function (args_list args)
next_of due.Instruction = Runs
next_of due.Over = Stopped

abbrev pub state_of_run : Inside → BinaryState
state_of_run a = record {
  machine = a.running.frames.machine;
  objects = a.objects;
  entered = a.entered;
  next = next_of a.due;
}
