pub mod Spine
pub mod Items
pub mod Bodies
pub mod Definitions
pub mod Externals
pub mod Typings
pub mod Starts
