pub mod Digits
pub mod Blanks
pub mod Puts
pub mod Tokens
pub mod Form
pub mod ValidCode
pub mod CodeMeaning
pub mod Growing
