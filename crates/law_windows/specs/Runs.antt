pub mod Demands
pub mod Kept
pub mod Lookup
pub mod Marks
pub mod Moves
pub mod Names
pub mod Numbers
