pub mod Scopes
pub mod Log
pub mod Depths
