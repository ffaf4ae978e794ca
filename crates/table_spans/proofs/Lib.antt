-- The laws: what a word of the span's ticks holds, and what a span put in parts has put.
pub mod SpanTicks
pub mod SpanParts
