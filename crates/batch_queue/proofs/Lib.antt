pub mod Numbers
pub mod Holding
pub mod Stepping
pub mod Parting
