pub mod Spelled
pub mod Beginning
pub mod CheckKind
