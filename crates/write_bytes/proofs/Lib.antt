-- The laws, one idea a file.
pub mod Writing
pub mod Leaves
pub mod Stores
pub mod Decimals
pub mod Standing
pub mod ReadBack
pub mod OneWriting
