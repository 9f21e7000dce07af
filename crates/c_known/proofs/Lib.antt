pub mod Binding
pub mod Lookups
pub mod Changes
pub mod LocalChanges
pub mod Growing
