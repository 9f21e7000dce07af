pub mod Rows
pub mod Changed
pub mod Firsts
pub mod Names
pub mod Added
