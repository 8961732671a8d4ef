pub mod Changing
pub mod Done
pub mod Ending
pub mod Known
pub mod Lists
pub mod Reading
mod Rows
