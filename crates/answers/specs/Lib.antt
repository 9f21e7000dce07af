pub mod Answer
pub mod Notes
pub mod Pens
pub mod Refusals
pub mod Texts
