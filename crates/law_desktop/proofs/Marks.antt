-- What a step marks at least and at most, and that a point that is not marked is painted as before.
pub mod Bounds
pub mod Painted
pub mod ShownWindows
pub mod Stacks
pub mod Through
pub mod Together
