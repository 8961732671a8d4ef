pub mod Family
pub mod Stacks
pub mod Subsurfaces
pub mod Trees
