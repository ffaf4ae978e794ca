-- The laws, one idea a file, in the order in which they build on each other.
pub mod Progress
pub mod RunTexts
pub mod Measured
pub mod Noted
pub mod Outcomes
