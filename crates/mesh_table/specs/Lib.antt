-- Keys, and what a table holds.
pub mod Keys
pub mod Tables
pub mod Shown
-- The slots of a table, and the search among them.
pub mod Probing
pub mod LowestVertex
