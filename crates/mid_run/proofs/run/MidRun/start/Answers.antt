use Rattle.std.proofs.Common.{sym, arith}
use Rattle.frames.proofs.SoundStatics.{sound_statics}
use Rattle.mid_run.proofs.StartRuns.{main_not_none, few_registers, started_is, fits_at_start}
use Rattle.mid_run.proofs.run.MidRun.start.Goals as goal

pub unreachable-requires : goal.unreachable-requires
unreachable-requires c = main_not_none c.args.program.now c.requires.valid (sym c.in_default.ensures)

pub overflow_cast-count : goal.overflow_cast-count
overflow_cast-count c =
    let few = few_registers c.args.program.now c.in-Some.main.now c.requires.valid (sym c.in-Some.ensures) in
    omega (arith, few, c.len-count.ensures)

pub start-requires-clause-count : goal.start-requires-clause-count
start-requires-clause-count c =
    let few = few_registers c.args.program.now c.in-Some.main.now c.requires.valid (sym c.in-Some.ensures) in
    omega (arith, few, c.len-count.ensures)

pub begin_statics-requires-clause-sound : goal.begin_statics-requires-clause-sound
begin_statics-requires-clause-sound c = rw c.as_slice-statics.ensures ((sound_statics c.args.program.now c.requires.valid).0)

pub begin_statics-requires-2-clause-sound : goal.begin_statics-requires-2-clause-sound
begin_statics-requires-2-clause-sound c = rw c.as_slice-statics-2.ensures ((sound_statics c.args.program.now c.requires.valid).1)

pub returns-clause-fits : goal.returns-clause-fits
returns-clause-fits c =
    let protected = rw c.as_slice-statics.ensures at c.in_ok-protected.ensures in
    let binary = rw c.as_slice-statics-2.ensures at c.in_ok-binary.ensures in
    let is = started_is c.args.program.now c.args.limits _ _ _ c.args.input.items c.in-Some.main.now c.len-count.result (sym c.in-Some.ensures) c.len-count.ensures c.in_ok-frames.ensures.machine protected binary in
    rw (c.new.ensures, c.new-2.ensures.input) (fits_at_start c.args.program.now c.args.limits _ c.args.input.items c.requires.valid c.requires.limits c.new-2.ensures.bytes is)
