-- The definitions, lowest layer first.
pub mod Tokens
pub mod Grammar
pub mod RuleFaults
pub mod Lines
pub mod SheetLines
pub mod ReadingLines
