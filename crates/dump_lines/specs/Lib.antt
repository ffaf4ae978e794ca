-- The definitions that the contracts cite.
pub mod PlaceSays
pub mod EventSays
