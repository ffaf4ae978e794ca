-- The proofs, besides those of the functions: what is written for a clash; two outcomes coincide; refusals' numbers, and captions'; 0 is acceptance.
pub mod Written
pub mod Determined
pub mod Numbers
pub mod Acceptance
pub mod CaptionNumbers
