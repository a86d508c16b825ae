-- Spelling.
pub mod Digits
pub mod Joining
-- Counting.
pub mod Areas
pub mod Adding
pub mod Sums
pub mod Tallies
-- Runs of a report.
pub mod Running
pub mod Streaming
