-- The definitions that the demands are stated with.
pub mod Refusals
pub mod Runs
pub mod Cuts
pub mod Shuffles
pub mod Listings
