-- How an open edge was used.
pub mod Uses
-- The open edges, found by their ends.
pub mod Edges
-- The machine of the border list.
pub mod Windowing
-- That it gives the border list of the whole mesh.
pub mod WholeMesh
