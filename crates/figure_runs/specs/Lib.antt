-- The definitions that the contracts cite, lowest layer first.
pub mod Runs
pub mod FigureWords
