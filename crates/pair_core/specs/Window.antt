-- Where an upset may write a wrong byte that no comparison finds any more: its window.
use Rattle.std.specs.Prelude.{◌≡◌, ℕ, ◌-◌, List, ◌∷◌, ◌++◌, Option, Some, length, slice_get}
use Rattle.srmt_base.specs.declared.side.Side.TheVariants.{Lead}
use Rattle.srmt_base.specs.declared.word.Site.{Site}
use Rattle.mid_code.specs.Classes.{SharedProgram}
use Rattle.srmt_base.specs.declared.request_kind.RequestKind.{RequestKind}
use Rattle.mid_code.specs.declared.version.Operands.{Operands}
use Rattle.mid_code.specs.Versions.{operands_list}
use Rattle.mid_code.specs.declared.version.VersionLine.{VersionLine}
use Rattle.mid_code.specs.declared.version.VersionOp.TheVariants.{Act}
use Rattle.mid_code.specs.Machine.{activations}
use Rattle.world.specs.World.{Setting}
use Rattle.world.specs.Ideal.{ideal}
use Rattle.machine.specs.Side.{SideState, Went}
use Rattle.machine.specs.Steps.{side_op}
use Rattle.machine.specs.Upset.{Upset, Upsets, RegisterAt}
use Rattle.pair_core.specs.History.{Past, ready, HasPast}
use Rattle.pair_core.specs.Fit.{IsPrefix}

-- the ideal run acknowledges these words first
abbrev pub IdealEchoes : Setting → List ℕ → Type 0
IdealEchoes setting acks = (steps : ℕ) × IsPrefix acks (ideal setting steps).echoes

-- the side stands at an ACT, and the target is one of its operands, which are registers of the newest activation
pub record IsOperand (program : SharedProgram) (s : SideState) (upset : Upset) : Type 0 where
  pub line : VersionLine
  pub site : Site
  pub request : RequestKind
  pub answer : Option ℕ
  pub function : Option ℕ
  pub operands : Operands
  pub at : side_op Lead program s ≡ Some line
  pub acts : line.op ≡ Act site request answer function operands
  pub place : ℕ
  pub register : ℕ
  pub operand : slice_get (operands_list operands) place ≡ Some register
  pub target : upset.target ≡ RegisterAt (length (activations s.at.machine)) register

-- an upset of the leading side, by those that strike before it: some history that takes the
-- acknowledgements of the ideal run, and in which no event fails, leads to where the side stands at an
-- ACT and the upset replaces one of its operands
pub record InWindow (setting : Setting) (before : List Upset) (upset : Upset) : Type 0 where
  pub past : Past
  pub so_far : HasPast setting (record { side = Lead; list = before }) Lead (upset.step - 1) past
  pub acks : IdealEchoes setting past.took
  pub side : SideState
  -- it has not ended, so no event has failed
  pub goes : (ready before upset.step past).at ≡ Went side
  pub operand : IsOperand setting.program side upset

-- some upset of a run stands in its window
pub record AnyInWindow (setting : Setting) (upsets : Upsets) : Type 0 where
  pub before : List Upset
  pub upset : Upset
  pub behind : List Upset
  pub leading : upsets.side ≡ Lead
  pub among : upsets.list ≡ before ++ upset ∷ behind
  pub window : InWindow setting before upset
