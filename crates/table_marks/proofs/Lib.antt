-- The laws: what a word changed in a table says of its marks.
pub mod Places
pub mod Marks
