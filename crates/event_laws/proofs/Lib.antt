pub mod Giving
pub mod NodesFew
pub mod PartsFew
pub mod TermsFew
pub mod DeclarationsFew
pub mod StatementsFew
pub mod FilesFew
