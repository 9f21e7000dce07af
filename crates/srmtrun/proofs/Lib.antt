pub mod Spelling
pub mod Asking
pub mod Limiting
pub mod Serving
pub mod Meaning
pub mod OneProgram
pub mod Clauses
