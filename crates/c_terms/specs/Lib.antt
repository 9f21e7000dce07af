-- What operators make of operands (Nodes), the parts of declarators (Parts), and lists that are checked from their front
-- (Fronts).
pub mod Parts
pub mod Nodes
pub mod Fronts
pub mod Kinds
