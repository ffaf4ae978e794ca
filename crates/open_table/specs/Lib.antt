-- The definitions that the contracts cite, lowest layer first; `OpenedTable` serves the functions.
pub mod Opens
pub mod OpenedTable
