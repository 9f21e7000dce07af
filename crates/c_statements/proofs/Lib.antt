pub mod Giving
pub mod Views
pub mod PartLaws
pub mod Conversions
