use Rattle.std.proofs.Common.{◌≡◌, ◌+◌, ◌<◌, length, arith}
use Rattle.frames.specs.Statics.{with_static}
use Rattle.frames.proofs.StaticRows.{set_up_more}
use Rattle.frames.proofs.statics.begin_static.Goals as goal

pub unreachable-requires-in_default-set_up : goal.unreachable-requires-in_default-set_up
unreachable-requires-in_default-set_up c =
    let i = c.loop-offset.offset in
    let within : i < length c.args.object.now.values = rw c.as_slice-value-items.ensures at c.loop-offset-test.true in
    let h = set_up_more c.args.store.now c.args.number c.args.object.now i c.requires.some c.requires.others c.requires.sound (omega (arith, within, c.requires.sound.values)) within in
    let e = rw (c.loop-offset.invariant, c.from-start.ensures, c.as_slice-value-items.ensures) at c.in_default-set_up.ensures.trap in
    absurd (cc)

pub loop-offset-preserved : goal.loop-offset-preserved
loop-offset-preserved c =
    let i = c.loop-offset.offset in
    let within : i < length c.args.object.now.values = rw c.as_slice-value-items.ensures at c.loop-offset-test.true in
    let h = set_up_more c.args.store.now c.args.number c.args.object.now i c.requires.some c.requires.others c.requires.sound (omega (arith, within, c.requires.sound.values)) within in
    let e = rw (c.loop-offset.invariant, c.from-start.ensures, c.as_slice-value-items.ensures) at c.in-Ok-set_up.ensures.ok in
    let same : c.set_up.new.self ≡ with_static c.args.store.now c.args.number c.args.object.now (i + 1) = cc in
    same
