use Rattle.std.proofs.Common.{◌≡◌, map, take}
use Rattle.srmt_base.specs.Args.{args_list}
use Rattle.mid_code.specs.Registers.{registers_list}
use Rattle.mid_code.specs.Machine.{register}
use Rattle.frames.proofs.frames.Frames.values.Given as goal

abbrev pub invariant-loop-register : goal.invariant-loop-register
invariant-loop-register l =
    args_list l.args ≡ map (register l.self.machine.top) (take l.register-index (registers_list l.registers))
