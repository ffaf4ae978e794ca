-- The definitions that the contracts cite, lowest layer first.
pub mod RecordWords
pub mod RunCounts
