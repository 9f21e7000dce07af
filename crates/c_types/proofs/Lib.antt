pub mod Rows
pub mod Grown
pub mod Added
pub mod Sizes
pub mod Denotes
pub mod Same
pub mod OneObject
pub mod Below
