-- The definitions that the contracts cite.
pub mod Closes
pub mod Rounds
