-- The definitions that the contracts cite, lowest layer first.
pub mod Gain
pub mod Operations
pub mod WritingSays
pub mod TextAnswers
