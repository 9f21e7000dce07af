-- Parts of what an initializer of a static object gives.
pub mod Wide
pub mod Small
