-- What is told of frames.
pub mod Framing
pub mod FramingEnds
