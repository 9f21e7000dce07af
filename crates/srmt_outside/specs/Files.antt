-- What a read of a file does.
use Rattle.std.specs.Prelude.{◌≡◌, ℕ, ◌+◌, ◌≤◌, List, [], ◌∷◌, length, Option, Result, Ok, Err}
use Rattle.std.specs.Io.{StartsWith}
use Rattle.srmt_outside.specs.Count.{next_count}
use Rattle.srmt_outside.specs.Told.{Appends}
use Rattle.srmt_outside.specs.declared.file_fault.FileFault.{FileFault}
use Rattle.srmt_outside.specs.declared.file_fault.FileFault.TheVariants.{Failed, TooLong, Memory}

-- the list begins as it was, and is at most `limit` longer
abbrev pub GrowsWithin : List ℕ → List ℕ → ℕ → Type 0
GrowsWithin before after limit = StartsWith after before × (length after ≤ length before + limit)

module _ {T : Type 0} where
  -- a call asks for its name, unless it answers Memory
  abbrev pub Asks : Result T FileFault → Option (List (List ℕ)) → Option (List (List ℕ)) → List ℕ → Type 0
  Asks (Ok _) before after name = Appends before after (name ∷ [])
  Asks (Err Failed) before after name = Appends before after (name ∷ [])
  Asks (Err TooLong) before after name = Appends before after (name ∷ [])
  Asks (Err Memory) before after name = after ≡ before

  -- the count of faults after a call with this answer: one more where it failed, and else as it was
  abbrev pub faults_after : ℕ → Result T FileFault → ℕ
  faults_after faults (Ok _) = faults
  faults_after faults (Err Failed) = next_count faults
  faults_after faults (Err TooLong) = faults
  faults_after faults (Err Memory) = faults
