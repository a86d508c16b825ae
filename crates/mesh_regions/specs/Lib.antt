-- What the constructor of a region answers.
pub mod Making
-- The regions.
pub mod Boxes
pub mod HalfSpaces
pub mod Sets
