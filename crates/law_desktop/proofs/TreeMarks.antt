pub mod Records
pub mod Damage
pub mod Roots
mod Rows
pub mod Tree
pub mod Whole
