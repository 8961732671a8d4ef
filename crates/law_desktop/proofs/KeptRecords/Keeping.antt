-- Those toplevels stand that are mapped, by what their clients own.
pub mod Letting
pub mod OwningXdg
pub mod StandingClients
pub mod StandingTurned
