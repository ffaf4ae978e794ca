-- The definitions that the contracts cite, lowest layer first.
pub mod Measures
pub mod MovedText
pub mod OpenedFor
