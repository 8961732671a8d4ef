pub mod Naming
pub mod Shown
pub mod Told
