pub mod MovedPlaces
pub mod MoreLines
pub mod VersionRows
pub mod ClassesThere
