pub mod FirstForm
pub mod Place
pub mod Reading
pub mod Meaning
pub mod Lowered
pub mod Pairing
