pub mod Asked
pub mod Copying
pub mod Hearing
pub mod Laws
pub mod Telling
pub mod View
