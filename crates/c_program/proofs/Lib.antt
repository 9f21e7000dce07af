pub mod Resolved
mod Mains
mod StaticLists
mod Tables
