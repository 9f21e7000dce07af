-- Upsets of a run: the text of a list of them (Lists), and what its reader gives (Reading).
pub mod Lists
pub mod Reading
