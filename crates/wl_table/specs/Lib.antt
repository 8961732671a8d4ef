pub mod Objects
pub mod Places
pub mod Rising
