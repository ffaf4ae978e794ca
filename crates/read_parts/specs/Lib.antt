-- The definitions, lowest layer first.
pub mod FormulaText
pub mod Parsed
pub mod Promise
