-- What each client owns is in order wherever nobody points, with popups.
pub mod Dismissed
pub mod Held
pub mod Ids
pub mod Kept
pub mod Known
pub mod Laws
pub mod Numbered
pub mod Numbers
pub mod Rising
pub mod Sound
pub mod Subsurfaces
pub mod Whole
