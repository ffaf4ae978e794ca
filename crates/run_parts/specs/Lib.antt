-- The definitions that the contracts cite, one idea a file.
pub mod Prefixes
