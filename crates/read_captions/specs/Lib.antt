-- The definitions that the contracts cite, lowest layer first.
pub mod Captions
pub mod Parts
