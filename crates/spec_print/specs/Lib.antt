-- The definitions that the contracts cite, lowest layer first.
pub mod RuleTexts
pub mod Parentheses
pub mod Printing
