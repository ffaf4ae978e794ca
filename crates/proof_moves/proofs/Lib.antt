-- The laws, one idea a file, in the order in which they build on each other.
pub mod Answered
pub mod Refusals
pub mod Output
pub mod EitherForm
pub mod RoundTrips
pub mod Fewest
