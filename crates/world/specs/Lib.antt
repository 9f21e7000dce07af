pub mod World
pub mod View
pub mod Written
pub mod Standing
pub mod Requests
pub mod Ideal
