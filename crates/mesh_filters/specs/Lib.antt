-- What a filter that judges means, and what it makes of one event.
pub mod Handing
-- The vectors of clean.
pub mod Near
pub mod Vectors
-- What compact makes of one corner, and what it has to hand over for one event.
pub mod Compacting
-- What each filter makes.
pub mod Making
