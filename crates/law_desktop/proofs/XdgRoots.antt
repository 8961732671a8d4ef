pub mod Keeping
pub mod Named
pub mod Orderly
pub mod Runs
pub mod Subsurfaces
pub mod Tied
