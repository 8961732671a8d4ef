pub mod Between
pub mod Names
mod Rows
pub mod Shown
pub mod Told
pub mod Trees
