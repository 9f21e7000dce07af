-- How the parts of a path make the whole (Paths), what checking makes of each node (NodeTerms), and lists that are checked
-- from their front (FrontLaws).
pub mod Paths
pub mod NodeTerms
pub mod FrontLaws
pub mod ListTerms
pub mod ListSteps
pub mod FrontSteps
pub mod Calls
pub mod Pointers
