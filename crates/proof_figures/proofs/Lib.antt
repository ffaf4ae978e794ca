-- The theorems, one idea a file, in the order in which they build on each other. `Figures` has what a reader wants of them.
pub mod TextsInTurn
pub mod Refusals
pub mod ClosedTables
pub mod Some
pub mod Runs
pub mod EachRecord
pub mod Sound
pub mod EarliestTick
pub mod Figures
