-- What every client keeps by itself through each step, where nobody points.
pub mod Clients
pub mod Steps
pub mod Told
