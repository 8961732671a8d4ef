pub mod Agreement
pub mod First
pub mod Pointers
pub mod Said
pub mod Serving
pub mod View
pub use Rattle.wl_wire.specs.Wire
