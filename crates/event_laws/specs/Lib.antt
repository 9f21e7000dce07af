-- How many tokens the trees of a file have.
pub mod TokensOf
