-- The laws, one idea a file.
pub mod CaptionBytes
pub mod CaptionForms
pub mod CaptionLines
pub mod CaptionTurns
pub mod NotedCaptions
pub mod ShownParts
pub mod ShortTexts
