-- Lists filtered in turn, and lists made of a list for each element.
mod Listing
-- Edges by their two ends, and by their other ends at one vertex.
pub mod Joining
mod Buckets
-- The open edges after some uses and finalizations, and what one use more and one finalization more make of them.
pub mod Opening
mod Closing
-- That the machine gives the border list of the whole mesh.
mod Using
pub mod Bordering
