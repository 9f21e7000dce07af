pub mod Types
pub mod Conversions
pub mod Rules
pub mod Hashing
pub mod Table
pub mod Sizes
pub mod OneObject
