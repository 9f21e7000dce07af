-- Arguments of a call (Arguments).
pub mod Arguments
