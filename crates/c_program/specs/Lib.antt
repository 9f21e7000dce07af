-- What the end of a program is to give (Whole), and the steps of its static objects (Statics) and of the table of what
-- each entity is (Numbers).
pub mod Whole
pub mod Statics
pub mod Numbers
