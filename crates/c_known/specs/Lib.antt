-- What the code knows as what is known (Views), how a function of the code gives what checking gives (Gives, Refusals),
-- what the parts of it stand for (Standing), and steps of checking on locals, texts and what is predeclared.
pub mod Views
pub mod Gives
pub mod Refusals
pub mod Standing
pub mod Locals
pub mod Texts
pub mod Predeclared
