-- The frame: a memory that recalls the accepted list, and that a layer which keeps such a memory gives the whole rewriting.
pub mod Recalling
pub mod Rules
-- Check, clean and clip.
pub mod Passing
-- Renumber.
pub mod Renumbering
-- Compact: what it hands over, by the list and at the corners of one triangle.
pub mod Unseen
pub mod Handed
pub mod Corners
pub mod Compacting
