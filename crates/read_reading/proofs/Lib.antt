-- The laws, one idea a file, in the order in which they build on each other.
pub mod SpanMarks
pub mod Lines
pub mod LaterLines
