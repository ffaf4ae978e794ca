-- The laws, one idea a file, in the order in which they build on each other.
pub mod Parts
pub mod Lengths
pub mod ReadableNames
pub mod LinesBack
pub mod ReadBack
pub mod OneText
pub mod WholeTexts
