pub mod Edits
pub mod Rect
pub mod Region
