-- What is kept of a client's popups stands for them.
pub mod Coming
pub mod Committing
pub mod Dismissing
pub mod Done
pub mod Ending
pub mod Finding
pub mod Going
pub mod Grabbing
pub mod Knowing
pub mod Naming
pub mod Renamed
pub mod Repositioning
pub mod Rows
pub mod Stepping
