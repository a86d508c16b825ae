-- Lists of numbers and of events.
pub mod Having
pub mod Views
pub mod Distinct
-- Accepted lists.
pub mod Refusing
pub mod Living
pub mod Bounding
pub mod Beginnings
-- What clean and clip leave of a list.
pub mod Thinning
-- Numbering vertices anew, and moving them.
pub mod Numbering
pub mod Introducing
pub mod Moving
pub mod Compacting
-- What they make of a list that goes on.
pub mod Naming
pub mod Continuing
pub mod Prefixes
-- The layers, and piles of them.
pub mod Layers
pub mod Piling
-- What looking up says of what they make.
pub mod Faithful
