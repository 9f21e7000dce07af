pub mod Asking
pub mod Plain
pub mod Telling
pub mod Running
