pub mod ClassRows
pub mod SitesThere
