pub mod Prefixes
pub mod Counted
pub mod Found
pub mod ReadAgain
pub mod Appended
pub mod CutBack
