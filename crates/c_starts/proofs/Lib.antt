pub mod Wide
pub mod ConstantLaws
pub mod StartLaws
pub mod Rows
