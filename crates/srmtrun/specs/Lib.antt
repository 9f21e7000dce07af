pub mod Words
pub mod Reading
pub mod Reads
pub mod Answer
pub mod Still
pub mod Parts
