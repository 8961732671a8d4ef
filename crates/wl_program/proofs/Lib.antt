mod Accepted
mod Ending
pub mod Locals
mod Named
mod OptionsRows
mod PaceRows
mod Paced
mod PointerLines
mod Stepped
mod Served
mod Sides
