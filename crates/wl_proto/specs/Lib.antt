pub mod Table
pub mod Messages
pub mod Spelling
pub mod Objects
pub mod Laws
