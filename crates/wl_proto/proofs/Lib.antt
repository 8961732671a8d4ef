pub mod Decoding
pub mod Encoding
pub mod Past
pub mod Streams
