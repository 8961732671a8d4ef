pub mod Dismissed
pub mod Marks
pub mod Presses
pub mod Windows
