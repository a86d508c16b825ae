-- The report's text.
pub mod Spelling
pub mod SpellingExamples
pub mod Writing
-- What a report counts.
pub mod Areas
pub mod Sums
-- What its calls do, and what it will say of a text.
pub mod Counting
pub mod Reporting
pub mod Streaming
