-- Lists: what holds of each element, tests of them, what is left, and entries that are told apart by keys.
pub mod Each
pub mod Keys
pub mod Left
pub mod Standings
pub mod Surfaces
pub mod Tests
