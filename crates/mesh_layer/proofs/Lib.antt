-- The law on runs.
pub mod Asking
pub mod Handed
pub mod Ending
pub mod Following
pub mod Keeping
pub mod Runs
