pub mod OneAnswer
pub mod Layers
