pub mod Wording
pub mod Writing
