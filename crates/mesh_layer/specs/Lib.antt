-- Filters, and layers of them.
pub mod Filtering
pub mod Faults
pub mod LayeringLaw
pub mod Layering
-- Filters that are machines.
pub mod Machine
pub mod MachineLaw
pub mod JudgingMachine
-- The law on runs.
pub mod Law
-- Orders worked off.
pub mod Orders
