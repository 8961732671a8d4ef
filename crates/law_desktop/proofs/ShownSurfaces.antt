-- Which toplevels stand and which surfaces show a buffer wherever nobody points, with popups.
pub mod Demands
pub mod Fitting
pub mod Found
pub mod Laws
pub mod Roots
pub mod Turned
pub mod Well
