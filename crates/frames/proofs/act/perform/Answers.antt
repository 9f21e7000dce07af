use Rattle.std.proofs.Common.{◌≡◌, ◌*◌, arith}
use Rattle.srmt_base.specs.Objects.{pointer_to}
use Rattle.frames.proofs.act.perform.Goals as goal

pub returns-in-Const : goal.returns-in-Const
returns-in-Const c = rw c.in-Const.is (c.set.ensures c.args.program.now c.args.line.now.line)

pub returns-in-Move : goal.returns-in-Move
returns-in-Move c =
    let done = rw c.read-value.ensures.value at (c.set-in-Move.ensures c.args.program.now c.args.line.now.line) in
    rw c.in-Move.is done

pub returns-in-Arith : goal.returns-in-Arith
returns-in-Arith c =
    let done = rw (c.arith-outcome.ensures.exact, c.read.ensures.value, c.read-in-Arith.ensures.value) at (c.set_or_trap.ensures c.args.program.now) in
    rw c.in-Arith.is done

pub returns-in-Conv : goal.returns-in-Conv
returns-in-Conv c =
    let done = rw (c.convert-value.ensures.exact, c.read-in-Conv.ensures.value) at (c.set-in-Conv.ensures c.args.program.now c.args.line.now.line) in
    rw c.in-Conv.is done

pub returns-in-PtrAdd : goal.returns-in-PtrAdd
returns-in-PtrAdd c =
    let done = rw (c.pointer_sum-outcome.ensures.exact, c.read-in-PtrAdd.ensures.value, c.read-in-PtrAdd-2.ensures.value) at (c.set_or_trap-in-PtrAdd.ensures c.args.program.now) in
    rw c.in-PtrAdd.is done

pub returns-in-PtrDiff : goal.returns-in-PtrDiff
returns-in-PtrDiff c =
    let done = rw (c.pointer_difference-outcome.ensures.exact, c.read-in-PtrDiff.ensures.value, c.read-in-PtrDiff-2.ensures.value) at (c.set_or_trap-in-PtrDiff.ensures c.args.program.now) in
    rw c.in-PtrDiff.is done

pub returns-in-PtrCmp : goal.returns-in-PtrCmp
returns-in-PtrCmp c =
    let done = rw (c.pointer_comparison-outcome.ensures.exact, c.read-in-PtrCmp.ensures.value, c.read-in-PtrCmp-2.ensures.value) at (c.set_or_trap-in-PtrCmp.ensures c.args.program.now) in
    rw c.in-PtrCmp.is done

pub returns-in-GlobAddr : goal.returns-in-GlobAddr
returns-in-GlobAddr c =
    let address : c.from.result * 65536 ≡ pointer_to c.in-GlobAddr.object 0 = omega (arith, c.from.ensures) in
    let done = rw address at (c.set-in-GlobAddr.ensures c.args.program.now c.args.line.now.line) in
    rw c.in-GlobAddr.is done

pub returns-in-FunAddr : goal.returns-in-FunAddr
returns-in-FunAddr c =
    let done = rw c.from-in-FunAddr.ensures at (c.set-in-FunAddr.ensures c.args.program.now c.args.line.now.line) in
    rw c.in-FunAddr.is done

pub returns-in-Close : goal.returns-in-Close
returns-in-Close c = rw c.in-Close.is (c.close.ensures c.args.program.now)

pub returns-in-Jump : goal.returns-in-Jump
returns-in-Jump c = rw c.in-Jump.is (c.jump.ensures c.args.program.now c.args.line.now.line)

pub returns-in-JumpZ : goal.returns-in-JumpZ
returns-in-JumpZ c =
    let done = rw c.read-taken.ensures.value at (c.jump-in-JumpZ.ensures c.args.program.now c.args.line.now.line) in
    rw c.in-JumpZ.is done

pub returns-in-JumpN : goal.returns-in-JumpN
returns-in-JumpN c =
    let done = rw c.read-taken-in-JumpN.ensures.value at (c.jump-in-JumpN.ensures c.args.program.now c.args.line.now.line) in
    rw c.in-JumpN.is done
