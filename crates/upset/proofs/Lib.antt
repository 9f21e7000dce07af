pub mod Digits
pub mod Upsets
pub mod Listing
