pub mod After
pub mod Alike
pub mod Lists
pub mod Orders
pub mod Releasing
pub mod Rising
pub mod Stores
