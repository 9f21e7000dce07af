-- What doing a task owes, where a function promises it part by part.
use Rattle.std.proofs.Common.{Result, Ok, Err}
use Rattle.std.specs.Prelude.{IfOk, OnOk}
use Rattle.c_meaning.specs.declared.run.Did.{Did}
use Rattle.c_meaning.specs.declared.run.Run.{Run}
use Rattle.c_meaning.specs.declared.setting.At.{At}
use Rattle.c_meaning.specs.Owes.{Takes}
use Rattle.c_meaning.specs.Pending.{Task}
use Rattle.c_meaning.specs.Runs.{going_with, Steps, IsSound, Falls, work_with}

module _ (at : At) (old new : Run) (t : Task) where
  pub taken_by_parts : {E : Type 0} (r : Result Did E) → IfOk r (Steps at.program.now (λ bound. going_with at.program.now bound t old) old new)
      → OnOk r (IsSound at.program.now new) → IfOk r (Falls at.program.now (work_with at.program.now t old) old new) → IfOk r (Takes at old t new)
  taken_by_parts (Ok d) steps sound falls = record { steps = steps; sound = sound; falls = falls }
  taken_by_parts (Err e) steps sound falls = steps
