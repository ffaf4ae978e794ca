-- The definitions that the contracts cite, lowest layer first.
pub mod Read
pub mod Bytes
pub mod Numbers
