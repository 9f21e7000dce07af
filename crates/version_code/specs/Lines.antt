-- The instructions of a version as they are gathered.
use Rattle.std.specs.Prelude.{ℕ, ◌-◌, List, ◌++◌, length}
use Rattle.mid_code.specs.declared.version.VersionOp.{VersionOp}
use Rattle.mid_code.specs.declared.version.VersionLine.{VersionLine}
use Rattle.mid_code.specs.Versions.{with_line}

-- those that are there, and how many more there is room for
pub record Gathered : Type 0 where
  pub code : List VersionLine
  pub room : ℕ

-- some more, all of one line
abbrev pub gained : Gathered → ℕ → List VersionOp → Gathered
gained g line ops = record { code = g.code ++ with_line line ops; room = g.room - length ops }
