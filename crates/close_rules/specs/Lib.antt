-- The definitions that the contracts cite, lowest layer first.
pub mod Codes
pub mod Settled
pub mod Effects
pub mod Kinds
