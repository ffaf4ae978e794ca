-- The definitions that the contracts cite, lowest layer first.
pub mod RowCodes
pub mod RowWrites
