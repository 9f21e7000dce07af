pub mod Casting
pub mod Indexing
pub mod Passing
pub mod FirstArgument
