-- The definitions that the contracts cite, lowest layer first.
pub mod EndNumbers
pub mod Spellings
pub mod Slices
