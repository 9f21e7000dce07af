-- That a typed program has types of the language throughout. LanguagePrograms says it of each part of a program;
-- HasItems says which trees have an item in the braces that initialize an array without a length, as all that the
-- grammar derives have.
pub mod LanguagePrograms
pub mod HasItems
