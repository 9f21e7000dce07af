pub mod ViewLaws
pub mod StatementViewLaws
