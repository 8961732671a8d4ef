pub mod Gone
pub mod Marked
pub mod Pressed
pub mod Raised
pub mod Roots
pub mod Rows
pub mod Shown
pub mod Whole
