pub mod Appended
pub mod Copies
pub mod Joined
pub mod Lines
pub mod Places
pub mod Counted
pub mod Untold
