pub mod Telling
pub mod Outcomes
pub mod Leading
pub mod Playing
pub mod Filled
pub mod Stages
