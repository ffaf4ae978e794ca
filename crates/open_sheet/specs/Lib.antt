-- The definitions that the contracts cite, lowest layer first; `OpenedSheet` serves the functions.
pub mod Results
pub mod SheetIn
pub mod Buffers
pub mod OpenedSheet
