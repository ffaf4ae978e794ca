-- The definitions that the contracts cite.
pub mod HeldSigns
pub mod TakenEvents
