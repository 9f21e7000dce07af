-- What an activation of a version does by its copied instructions, which both sides of a pair perform.
use Rattle.std.specs.Prelude.{ℕ, zero, suc, ◌≡◌, ◌+◌, ◌^◌, ◌<◌, List, length, Option, Some, None, All}
use Rattle.srmt_base.specs.declared.side.Side.{Side}
use Rattle.srmt_base.specs.declared.side.Side.TheVariants.{Lead, Trail}
use Rattle.mid_code.specs.declared.mid.Mid.{Mid}
use Rattle.mid_code.specs.declared.program.MidProgram.{MidProgram}
use Rattle.mid_code.specs.declared.version.Version.{Version}
use Rattle.mid_code.specs.declared.version.VersionLine.{VersionLine}
use Rattle.mid_code.specs.declared.version.VersionOp.TheVariants.{Copied}
use Rattle.mid_code.specs.Classes.{SharedProgram}
use Rattle.mid_code.specs.Versions.{leading_versions, trailing_versions, version_at}
use Rattle.mid_code.specs.Fits.{IsValue}
use Rattle.mid_code.specs.Machine.{Local, Machine, Goes, local_of, with_local, act}
use Rattle.frames.specs.declared.alone.Stand.{Stand}
use Rattle.frames.specs.Alone.{GoesBy, IsHeld, Names}

-- the versions that a side runs
abbrev pub versions_of : Side → SharedProgram → List Version
versions_of Lead program = leading_versions program
versions_of Trail program = trailing_versions program

-- as many registers, with values
pub record IsKept (before after : List ℕ) : Type 0 where
  pub count : length after ≡ length before
  pub each : All IsValue after

-- an instruction names registers among so many, and where it goes on they are as many as before, with values
pub record CanCopy (mid : Mid) (count : ℕ) : Type 0 where
  pub names : Names mid count
  pub keeps : (program : MidProgram) (line : ℕ) (l next : Local) → length l.at.registers ≡ count → All IsValue l.at.registers →
      act program mid line l ≡ Goes next → IsKept l.at.registers next.at.registers

-- each copied instruction of a function's version can be performed with so many registers
abbrev pub CanCopyAll : Side → SharedProgram → ℕ → ℕ → Type 0
CanCopyAll side program function count =
    (place : ℕ) (l : VersionLine) (mid : Mid) → version_at (versions_of side program) function place ≡ Some l → l.op ≡ Copied mid →
    (place + 1 < 2 ^ 32) × CanCopy mid count

-- the instruction at which an activation stands is a copied one, which leads from the one to the other
pub record Copies (side : Side) (program : SharedProgram) (function : ℕ) (before : List ℕ) (from : Stand) (after : List ℕ) (to : Stand) : Type 0 where
  pub line : VersionLine
  pub mid : Mid
  pub at : version_at (versions_of side program) function from.place ≡ Some line
  pub copied : line.op ≡ Copied mid
  pub goes : GoesBy mid before from after to

-- it is none, or it is held
abbrev pub CopiesNone : Side → SharedProgram → ℕ → List ℕ → Stand → Type 0
CopiesNone side program function before from =
    (line : VersionLine) (mid : Mid) → version_at (versions_of side program) function from.place ≡ Some line → line.op ≡ Copied mid → IsHeld mid before from

-- what the code says of it: where it is none, or is held, nothing has changed
abbrev pub HasCopied : Side → SharedProgram → ℕ → List ℕ → Stand → List ℕ → Option Stand → Type 0
HasCopied side program function before from after (Some to) = Copies side program function before from after to × IsKept before after
HasCopied side program function before from after None = (after ≡ before) × CopiesNone side program function before from

-- so many of them, one after another
abbrev pub CopiesMany : Side → SharedProgram → ℕ → ℕ → List ℕ → Stand → List ℕ → Stand → Type 0
CopiesMany side program function zero before from after to = (after ≡ before) × (to ≡ from)
CopiesMany side program function (suc n) before from after to =
    (registers : List ℕ) × (stand : Stand) × CopiesMany side program function n before from registers stand × Copies side program function registers stand after to

-- the same of a machine, whose newest activation performs them
pub record CopiesOn (side : Side) (program : SharedProgram) (before after : Machine) : Type 0 where
  pub line : VersionLine
  pub mid : Mid
  pub local : Local
  pub at : version_at (versions_of side program) before.top.function before.top.place ≡ Some line
  pub copied : line.op ≡ Copied mid
  pub goes : act program.program mid line.line (local_of program.program before) ≡ Goes local
  pub leads : after ≡ with_local program.program local before

-- the machine's newest activation stands at no copied instruction, or at one that is held
abbrev pub IsHeldOn : Side → SharedProgram → Machine → Type 0
IsHeldOn side program m =
    (line : VersionLine) (mid : Mid) (local : Local) → version_at (versions_of side program) m.top.function m.top.place ≡ Some line → line.op ≡ Copied mid →
    act program.program mid line.line (local_of program.program m) ≡ Goes local → ⊥

-- so many of them, one after another, by a machine
abbrev pub CopiesManyOn : Side → SharedProgram → ℕ → Machine → Machine → Type 0
CopiesManyOn side program zero before after = after ≡ before
CopiesManyOn side program (suc n) before after = (m : Machine) × CopiesManyOn side program n before m × CopiesOn side program m after
