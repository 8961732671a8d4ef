-- What may happen, and that it is determined: with memory there is one run, and a client that ended stays so.
pub mod Ends
pub mod Fates
pub mod Focus
pub mod Following
pub mod Forms
pub mod Idling
pub mod Leads
pub mod MayHappen
pub mod Moves
pub mod OneRun
pub mod OnlyRun
pub mod Output
pub mod Places
pub mod Serves
pub mod Settled
pub mod Stays
pub mod Through
