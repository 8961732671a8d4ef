-- What the steps of one client leave of the others.
pub mod Kept
pub mod LeftAlone
pub mod Messages
pub mod Others
pub mod Own
pub mod Refused
pub mod Settling
pub mod Told
