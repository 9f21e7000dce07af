pub mod Front
pub mod Layers
