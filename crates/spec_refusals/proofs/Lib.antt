-- The laws.
pub mod OneFault
