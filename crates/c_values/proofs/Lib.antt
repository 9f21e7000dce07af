pub mod Means
pub mod Answering
pub mod Naming
pub mod TermParts
