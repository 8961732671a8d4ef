pub mod Grabs
pub mod RenamedMarks
pub mod RenamedWindows
pub mod RepaintLaws
pub mod Runs
pub mod Telling
pub mod ToldLaws
pub mod ToldWindows
