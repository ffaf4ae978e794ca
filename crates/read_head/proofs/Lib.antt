-- The laws, one idea a file.
pub mod Signals
pub mod NamesPut
pub mod Heads
pub mod HeadPrefix
pub mod DeclaredNames
