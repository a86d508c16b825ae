-- The rows of the neighbours.
mod Rows
-- The open edges in their table.
mod Edging
mod Closing
-- The filter of the border list.
mod Plain
mod Keeping
mod Making
-- The law on runs, and who names a fault over a pile.
mod Standing
mod BorderLaw
