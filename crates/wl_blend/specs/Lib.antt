pub mod Blend
pub mod Lanes
pub use Rattle.wl_store.specs.Layout
