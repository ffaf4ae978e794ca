-- The laws.
pub mod Cutting
pub mod Keeping
pub mod OneText
pub mod Sums
