use Rattle.frames.proofs.SoundStatics.{sound_statics}
use Rattle.binary_run.proofs.StatesFit.{fits_started}
use Rattle.binary_run.proofs.binary.BinaryRun.start.Goals as goal

pub begin_statics-requires-clause-sound : goal.begin_statics-requires-clause-sound
begin_statics-requires-clause-sound c = rw c.as_slice-statics.ensures ((sound_statics c.args.program.now c.requires.valid).1)

pub returns-clause-fits : goal.returns-clause-fits
returns-clause-fits c =
    rw (c.in_ok-start.ensures.machine, c.in_ok-begin_statics.ensures, c.as_slice-statics.ensures) (fits_started c.args.program.now c.args.limits c.requires.valid c.requires.limits)
