pub mod Calls
pub mod Going
pub mod Links
pub mod Rects
pub mod Shown
pub mod Telling
