-- The definitions that the theorem cites.
pub mod Texts
