pub mod Attached
pub mod Keeping
pub mod Messages
pub mod Named
pub mod Running
