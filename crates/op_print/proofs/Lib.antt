-- The laws, one idea a file.
pub mod Rooms
pub mod RulesLine
pub mod RulesFound
pub mod RuleAgain
pub mod Outcomes
