-- The laws, one idea a file, in the order in which they build on each other.
pub mod SignTexts
pub mod HeldTexts
pub mod SignsHeld
pub mod IndexNames
pub mod Taking
