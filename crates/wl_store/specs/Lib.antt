pub mod Kept
pub mod Layout
pub mod Picture
pub mod Stores
pub mod Transform
