-- What is kept of a client stands for what it owns.
pub mod Creating
pub mod FramingWaits
pub mod Freeing
pub mod Ids
pub mod Letting
pub mod OwningAsks
pub mod OwningChanges
pub mod OwningLinks
pub mod OwningNames
pub mod OwningReads
pub mod OwningSurfaces
pub mod OwningTies
pub mod OwningTrees
pub mod OwningXdg
pub mod Releases
pub mod Roots
pub mod Trees
