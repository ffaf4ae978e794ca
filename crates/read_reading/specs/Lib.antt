-- The definitions that the contracts cite.
pub mod Spans
pub mod OneEntry
