pub mod Popped
pub mod Rising
pub mod Rooted
