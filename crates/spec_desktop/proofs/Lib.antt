pub mod Hits
pub mod Lone
pub mod Requests
pub mod StackingRows
