pub mod Rows
pub mod Halving
pub mod Access
pub mod Begin
pub mod End
pub mod Listed
