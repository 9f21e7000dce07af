pub mod Binary
pub mod Fits
pub mod Bounds
pub mod Laws
pub mod View
