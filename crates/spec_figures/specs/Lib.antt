-- The definitions that the contracts cite, lowest layer first.
pub mod Records
pub mod Texts
pub mod Figures
