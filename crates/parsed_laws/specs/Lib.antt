-- Which typed program the bytes of one or two files are. EachExpression says that each expression in a body is such.
pub mod Parsed
pub mod EachExpression
