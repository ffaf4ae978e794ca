-- The definitions, lowest layer first.
pub mod Nodes
pub mod NodeRules
