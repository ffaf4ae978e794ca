-- The definitions that the contracts cite.
pub mod ShownListing
pub mod PrintsCaptioned
