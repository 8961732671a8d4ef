-- A client's stream may be cut anywhere.
pub mod AnyPieces
pub mod Behind
pub mod Changing
pub mod Places
pub mod Serving
pub mod Settling
pub mod Splits
