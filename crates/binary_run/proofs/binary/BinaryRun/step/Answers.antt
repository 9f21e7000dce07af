use Rattle.std.proofs.Common.{◌≡◌, ℕ, List, drop, Some, ap}
use Rattle.srmt_base.specs.Args.{args_list}
use Rattle.srmt_base.specs.Objects.{Objects}
use Rattle.mid_code.specs.declared.program.MidProgram.{MidProgram}
use Rattle.mid_code.specs.Valid.{IsValid}
use Rattle.binary_run.specs.Binary.{BinaryState, Enters, After, enters}
use Rattle.binary_run.specs.Fits.{FitsBinary}
use Rattle.binary_run.specs.View.{state_of_run, next_of}
use Rattle.binary_run.proofs.ReachFits.{IsSmall}
use Rattle.binary_run.proofs.StepFits.{IsAfter, after_is}
use Rattle.binary_run.proofs.CodeSteps.{entered_step, small_said, nearer_said, bytes}
use Rattle.binary_run.proofs.binary.BinaryRun.step.Goals as goal

-- what the entry of a function comes to
entry : (program : MidProgram) (inside b : BinaryState) (shared : Objects) (input : List ℕ) (function : ℕ) (args : List ℕ) (after : After) → inside ≡ b →
    inside.next ≡ Enters function args → enters program function args b shared input ≡ Some after → IsValid program → FitsBinary program b →
    IsSmall shared input → IsAfter program b after
entry program inside b shared input function args after same is begun valid fits small =
    after_is program b shared input after valid fits small (entered_step program inside b shared input function args after same is begun)

pub returns-in-Entry-clause-small : goal.returns-in-Entry-clause-small
returns-in-Entry-clause-small g c =
    let a = c.args in
    let input = drop a.at.now a.input.now in
    let outside : IsSmall a.shared.now input = record { cells = c.budget-cells.ensures.small; bytes = bytes a.input.now a.at.now c.type_inv.input } in
    let after = entry a.program.now (state_of_run c.self.inside) a.self.now a.shared.now input c.in-Entry.function (args_list c.in-Entry.args) _ c.self.view_is (ap next_of c.in-Entry.is) (c.begin.ensures.enters a.shared.now input) c.requires.valid c.requires.fits outside in
    small_said c.begin.result after.small

pub returns-in-Entry-clause-nearer : goal.returns-in-Entry-clause-nearer
returns-in-Entry-clause-nearer g c =
    let a = c.args in
    let input = drop a.at.now a.input.now in
    let outside : IsSmall a.shared.now input = record { cells = c.budget-cells.ensures.small; bytes = bytes a.input.now a.at.now c.type_inv.input } in
    let after = entry a.program.now (state_of_run c.self.inside) a.self.now a.shared.now input c.in-Entry.function (args_list c.in-Entry.args) _ c.self.view_is (ap next_of c.in-Entry.is) (c.begin.ensures.enters a.shared.now input) c.requires.valid c.requires.fits outside in
    nearer_said c.begin.result _ _ after.nearer

pub returns-in-Entry-clause-fits : goal.returns-in-Entry-clause-fits
returns-in-Entry-clause-fits g c =
    let a = c.args in
    let input = drop a.at.now a.input.now in
    let outside : IsSmall a.shared.now input = record { cells = c.budget-cells.ensures.small; bytes = bytes a.input.now a.at.now c.type_inv.input } in
    let after = entry a.program.now (state_of_run c.self.inside) a.self.now a.shared.now input c.in-Entry.function (args_list c.in-Entry.args) _ c.self.view_is (ap next_of c.in-Entry.is) (c.begin.ensures.enters a.shared.now input) c.requires.valid c.requires.fits outside in
    after.fits

pub returns-in_ok-answer-in-Instruction-clause-small : goal.returns-in_ok-answer-in-Instruction-clause-small
returns-in_ok-answer-in-Instruction-clause-small g c =
    let a = c.args in
    let answer = c.in_ok-answer-in-Instruction in
    let input = drop a.at.now a.input.now in
    let outside : IsSmall a.shared.now input = record { cells = c.budget-cells.ensures.small; bytes = bytes a.input.now a.at.now c.type_inv.input } in
    let after = after_is a.program.now a.self.now a.shared.now input _ c.requires.valid c.requires.fits outside answer.ensures.step.1 in
    small_said answer.answer after.small

pub returns-in_ok-answer-in-Instruction-clause-nearer : goal.returns-in_ok-answer-in-Instruction-clause-nearer
returns-in_ok-answer-in-Instruction-clause-nearer g c =
    let a = c.args in
    let answer = c.in_ok-answer-in-Instruction in
    let input = drop a.at.now a.input.now in
    let outside : IsSmall a.shared.now input = record { cells = c.budget-cells.ensures.small; bytes = bytes a.input.now a.at.now c.type_inv.input } in
    let after = after_is a.program.now a.self.now a.shared.now input _ c.requires.valid c.requires.fits outside answer.ensures.step.1 in
    nearer_said answer.answer _ _ after.nearer

pub returns-in_ok-answer-in-Instruction-clause-fits : goal.returns-in_ok-answer-in-Instruction-clause-fits
returns-in_ok-answer-in-Instruction-clause-fits g c =
    let a = c.args in
    let answer = c.in_ok-answer-in-Instruction in
    let input = drop a.at.now a.input.now in
    let outside : IsSmall a.shared.now input = record { cells = c.budget-cells.ensures.small; bytes = bytes a.input.now a.at.now c.type_inv.input } in
    let after = after_is a.program.now a.self.now a.shared.now input _ c.requires.valid c.requires.fits outside answer.ensures.step.1 in
    after.fits
