pub mod Linking
pub mod Named
pub mod Names
pub mod Reading
pub mod Renaming
pub mod Telling
pub mod Tying
