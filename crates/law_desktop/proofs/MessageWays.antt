pub mod Ends
pub mod Gone
pub mod Keeping
pub mod Lists
pub mod Marks
pub mod Routes
pub mod Told
