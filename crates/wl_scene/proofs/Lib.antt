pub mod Geometry
pub mod Held
pub mod Hits
pub mod Kept
pub mod Listed
pub mod Marked
pub mod MarkedTrees
pub mod Moved
pub mod Numbered
pub mod Places
pub mod Popups
pub mod Raised
mod RepaintRows
pub mod Rooms
pub mod Rooted
pub mod Same
pub mod Shown
pub mod Spans
pub mod StackedTogether
pub mod Stacks
pub mod Standing
pub mod Stood
mod Told
pub mod TreesWritten
pub mod Truth
mod WindowsRows
pub mod WindowsShown
pub mod WindowsTrees
pub mod Written
