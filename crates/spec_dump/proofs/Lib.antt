-- The laws, one idea a file, in the order in which they build on each other.
pub mod Rooms
pub mod Signs
pub mod HeadBack
pub mod EventsBack
pub mod EventOrder
pub mod DumpBack
pub mod ReadOrder
pub mod SignsBack
pub mod SignReadings
pub mod Determined
