pub mod Typed
pub mod Constants
pub mod Starts
pub mod Statements
pub mod Views
pub mod StatementViews
