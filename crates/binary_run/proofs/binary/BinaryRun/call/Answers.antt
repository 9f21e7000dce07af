use Rattle.std.proofs.Common.{◌+◌, ◌<◌, ◌^◌, length, sym, ap, subst, arith}
use Rattle.frames.specs.Kept.{depths}
use Rattle.mid_code.specs.Machine.{activations}
use Rattle.binary_run.specs.Binary.{BinaryState}
use Rattle.binary_run.proofs.CodeSteps.{small_place, room_for_stub}
use Rattle.binary_run.proofs.binary.BinaryRun.call.Goals as goal

pub pass-requires : goal.pass-requires
pass-requires c =
    subst (λ (s : BinaryState). s.machine.top.place + 1 < 2 ^ 32) (sym c.self.view_is)
    (small_place c.args.program.now c.args.self.now c.requires.valid c.requires.fits c.requires.next)

pub push-requires-clause-room : goal.push-requires-clause-room
push-requires-clause-room c =
    let room = subst (λ (s : BinaryState). length (activations s.machine) + depths s.machine.budgets < 2001) (sym c.self.view_is)
    (room_for_stub c.args.program.now c.args.self.now c.requires.valid c.requires.fits c.requires.next) in
    rw c.pass.ensures (omega (arith, room, ap (λ r. r.activations) c.self.invariant))

pub call-requires-clause-place : goal.call-requires-clause-place
call-requires-clause-place c =
    subst (λ (s : BinaryState). s.machine.top.place + 1 < 2 ^ 32) (sym c.self-in-Binary.view_is)
    (small_place c.args.program.now c.args.self.now c.requires.valid c.requires.fits c.requires.next)
