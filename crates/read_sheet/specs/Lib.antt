-- The definitions that the contracts cite, lowest layer first.
pub mod Sheet
pub mod RuleAnswers
