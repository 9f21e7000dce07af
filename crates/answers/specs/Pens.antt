-- What a pen writes to a sink.
use Rattle.std.specs.Prelude.{◌≡◌, ℕ, ◌≤◌, ◌⊎◌, Bool, true, false, List, [], Option}
use Rattle.srmt_outside.specs.Count.{Rose}
use Rattle.srmt_outside.specs.Told.{Appends, AppendsPrefix}
use Rattle.answers.specs.Notes.{written}

-- a text was written to a sink, or the sink's faults rose and a first part of it was; a pen that
-- has stopped writes nothing
pub record Wrote {S : Type 0} (bytes : S → Option (List ℕ)) (faults : S → ℕ) (before : S) (going : Bool) (after : S) (still : Bool) (text : List ℕ) : Type 0 where
  pub whole : still ≡ true → (going ≡ true) × Appends (bytes before) (bytes after) text
  pub part : still ≡ false → AppendsPrefix (bytes before) (bytes after) text
  pub cause : still ≡ false → (going ≡ false) ⊎ Rose (faults before) (faults after)
  pub stopped : going ≡ false → (still ≡ false) × (after ≡ before)
  pub never_falls : faults before ≤ faults after

-- lines were written so; where there are none, nothing stops the pen
pub record WroteLines {S : Type 0} (bytes : S → Option (List ℕ)) (faults : S → ℕ) (before : S) (going : Bool) (after : S) (still : Bool) (lines : List (List ℕ)) : Type 0 where
  pub text : Wrote bytes faults before going after still (written lines)
  pub silent : lines ≡ [] → still ≡ going
