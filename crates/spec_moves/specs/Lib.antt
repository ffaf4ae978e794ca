-- The definitions that the contracts cite, lowest layer first.
pub mod InOrder
pub mod Moves
