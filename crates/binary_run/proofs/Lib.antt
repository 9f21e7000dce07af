pub mod StackFits
pub mod ReachFits
pub mod StepFits
pub mod StatesFit
pub mod CodeSteps
pub mod SameInstruction
pub mod MeantRuns
