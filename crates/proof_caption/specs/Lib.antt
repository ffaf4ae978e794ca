-- The definitions that the theorems cite.
pub mod CaptionTexts
pub mod CaptionCases
