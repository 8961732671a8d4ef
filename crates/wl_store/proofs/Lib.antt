pub mod Kept
pub mod Places
pub mod Points
pub mod Sound
pub mod Refusals
pub mod Layouts
pub mod Writes
