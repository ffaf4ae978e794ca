-- The definitions that the contracts cite, lowest layer first.
pub mod DumpTexts
pub mod DumpLines
pub mod EventOrder
pub mod DumpSigns
pub mod TableSigns
pub mod Dumps
