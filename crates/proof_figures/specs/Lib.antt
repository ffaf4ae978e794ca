-- The definitions that the theorems cite.
pub mod FigureCases
pub mod SingleRuns
