-- What files and programs of the code stand for (Files), and the steps of checking them (Steps), objects with
-- initializers (Contents) and functions (Functions) among them.
pub mod Steps
pub mod Files
pub mod Functions
pub mod Contents
