-- What the trees of the code stand for (Stand, Answers).
pub mod Stand
pub mod Answers
