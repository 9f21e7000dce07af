pub mod Codes
pub mod Nodes
pub mod Spelling
pub mod Grammar
pub mod Reading
pub mod Outcome
pub mod Parts
pub mod Spellings
