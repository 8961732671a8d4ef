pub mod ByNames
pub mod EachClient
pub mod EachPopup
pub mod InOrder
pub mod Isolation
pub mod Keeping
pub mod KeptInOrder
pub mod KeptRecords
pub mod Lists
mod MarkedOrder
mod MarkedStack
mod MarkedTrees
pub mod Marks
pub mod MessageWays
pub mod NobodyPoints
pub mod OneBuffer
pub mod OwnedPopups
pub mod Pieces
pub mod PointerAside
pub mod PopupsByNames
pub mod RootsOf
pub mod Runs
pub mod ShownSurfaces
pub mod Soundness
pub mod TreeBuffers
pub mod TreeMarks
pub mod TreeSteps
pub mod Truth
pub mod Twins
pub mod XdgRoots
