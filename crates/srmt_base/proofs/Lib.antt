pub mod ArgsLemmas
pub mod Conversions
pub mod Division
pub mod Integers
pub mod Parts
pub mod Ranges
