-- Clients whose role objects are toplevels, where nobody points: what their messages come to.
pub mod Back
pub mod Heard
pub mod Messages
pub mod Releases
pub mod Serves
pub mod Simply
