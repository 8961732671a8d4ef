pub mod Named
pub mod Naming
pub mod Shown
