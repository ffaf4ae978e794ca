-- The laws, one idea a file.
pub mod Cut
pub mod Ruled
pub mod Wholes
pub mod Stays
pub mod Formulas
pub mod Accepted
pub mod Examples
pub mod Bodies
pub mod SheetTexts
pub mod Shuffled
