-- The theorems, one idea a file, in the order in which they build on each other.
pub mod FixedLines
pub mod VarLines
pub mod EventLines
pub mod NextLines
pub mod DumpWalk
pub mod OneOutcome
pub mod DumpCases
pub mod OtherLines
pub mod InRoom
pub mod ReadRefusals
pub mod WriteRefusals
pub mod KnownSigns
pub mod ReadingTexts
pub mod TableDumps
pub mod DumpsBack
pub mod JustReadings
pub mod Examples
