pub mod Allowed
pub mod Finds
pub mod Passing
pub mod Peers
pub mod Queueing
pub mod Tables
pub mod Taking
pub mod Telling
