pub mod Kept
pub mod Acts
pub mod Reaching
pub mod Statics
pub mod Alone
pub mod Copied
