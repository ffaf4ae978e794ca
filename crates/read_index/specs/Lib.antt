-- The definitions that the contracts cite, lowest layer first.
pub mod NameTexts
pub mod Index
pub mod Finds
