pub mod Exchange
pub mod Reading
