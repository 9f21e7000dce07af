-- The machine's fields as what the run has come to.
use Rattle.std.specs.Prelude.{Option, Some, None}
use Rattle.srmt_base.specs.declared.trap.SourceEnd.{SourceEnd}
use Rattle.mid_code.specs.Meaning.{State}
use Rattle.frames.specs.Reaching.{state_of}
use Rattle.mid_run.specs.declared.run.MidRun.TheInside.{Inside}
use Rattle.mid_run.specs.Progress.{Progress, At, Over}

abbrev pub progress_by : Option SourceEnd → State → Progress
progress_by None s = At s
progress_by (Some end) s = Over end

abbrev pub progress_of : Inside → Progress
progress_of a = progress_by a.over (state_of a.running)
