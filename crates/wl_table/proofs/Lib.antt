pub mod Finding
pub mod Ids
pub mod Places
pub mod RisingPlaces
