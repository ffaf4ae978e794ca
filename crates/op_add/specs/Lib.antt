-- The definitions that the contracts cite.
pub mod AddingSays
pub mod WorkLists
