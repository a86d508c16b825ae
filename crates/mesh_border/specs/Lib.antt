-- The rows of live vertices, and which of them were joined.
pub mod FreeRows
pub mod Rows
-- The open edges, found by their keys.
pub mod OpenEdges
pub mod Finding
-- What the filter of the border list keeps, and what it makes.
pub mod Keeping
pub mod Making
-- The law on runs.
pub mod BorderLaw
