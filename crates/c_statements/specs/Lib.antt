-- Steps of checking statements (Steps), and what typed statements of the code stand for (Parts).
pub mod Steps
pub mod Parts
