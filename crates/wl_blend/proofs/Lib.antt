pub mod Fours
pub mod Vectors
pub mod Rest
