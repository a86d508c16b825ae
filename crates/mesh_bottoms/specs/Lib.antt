-- The list stage and the grid as whole lists.
pub mod Placing
pub mod Listing
pub mod Gridding
-- What the constructor of the grid answers.
pub mod Starting
-- That a stage with one ended outcome keeps the law of a stage.
pub mod Fixed
-- What is left of the grid from a part of a position on, and from a cursor on.
pub mod Walking
pub mod Steps
