pub mod Meanings
pub mod Pushed
pub mod Named
pub mod Declares
pub mod Depths
