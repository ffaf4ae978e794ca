-- The definitions, lowest layer first.
pub mod Interval
