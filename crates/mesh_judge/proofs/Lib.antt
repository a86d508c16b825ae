-- Lists of accepted events.
pub mod Refusing
pub mod Living
pub mod Sounding
pub mod Splitting
-- Judging by a window.
pub mod Knowing
pub mod Judging
