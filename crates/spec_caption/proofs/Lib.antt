-- The laws.
pub mod PartPlaces
