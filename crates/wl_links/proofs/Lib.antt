mod Beside
mod Books
mod Can
mod ChildrenRows
mod Cut
pub mod Depths
mod FamilyRows
mod Gone
mod Has
mod Height
mod Joins
pub mod Kept
mod Links
mod Members
mod Modes
pub mod Moved
mod Once
pub mod Roots
mod Runs
mod Stacked
pub mod TreeLink
pub mod TreePlaced
pub mod Under
mod Whole
