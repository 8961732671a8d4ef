-- Where nobody points nobody does after what leaves the pointer alone, and no popup has a grab.
pub mod Grabs
pub mod Laws
