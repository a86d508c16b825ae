-- How a border edge is shown.
pub mod ShownEdges
-- The border list of a list of events.
pub mod Bordering
pub mod Examples
