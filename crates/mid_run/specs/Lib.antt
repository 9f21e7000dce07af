pub mod Progress
pub mod View
