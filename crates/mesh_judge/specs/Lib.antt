-- The acceptance rules, over whole lists.
pub mod Accepting
-- Judging by a window.
pub mod Windows
pub mod Records
pub mod Judging
