-- Filters that judge.
pub mod Handing
pub mod Kept
pub mod Products
pub mod Bits
-- Compact.
pub mod Marking
