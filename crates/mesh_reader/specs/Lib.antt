-- The rules of reading.
pub mod Text
pub mod Numerals
pub mod Reading
pub mod Examples
-- That they keep the law of a stage.
pub mod ReadingLaw
-- What the steps of the reader do, by these rules.
pub mod Scanning
pub mod Lines
pub mod Keeping
pub mod Readers
