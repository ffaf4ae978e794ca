-- The definitions, lowest layer first.
pub mod Lists
pub mod Formula
pub mod Meaning
pub mod Since
pub mod Inference
pub mod Lowering
pub mod Former
pub mod Table
pub mod FormerTable
pub mod Calls
pub mod Short
