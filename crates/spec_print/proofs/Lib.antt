-- The laws, one idea a file.
pub mod TokenTexts
pub mod Counts
pub mod IntervalTexts
pub mod Fitting
pub mod OneLine
pub mod ReadBack
pub mod Determined
