-- The laws, one idea a file, in the order in which they build on each other.
pub mod Putting
pub mod OpenedSheets
pub mod Running
pub mod Starting
pub mod Loop
pub mod TextRuns
pub mod Outcomes
