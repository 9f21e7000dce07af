pub mod Rows
pub mod Ready
pub mod Gone
pub mod StaticRows
pub mod AloneRuns
pub mod SoundStatics
pub mod FewObjects
pub mod CopiesRun
