-- What the code makes of specifiers (Specifiers) and declarators (Derivations), and the trees that they are made of
-- (Trees).
pub mod Trees
pub mod Specifiers
pub mod Derivations
pub mod Locals
