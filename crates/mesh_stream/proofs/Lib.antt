-- Lists of events.
pub mod Having
pub mod Views
pub mod Distinct
-- Lists of calls.
pub mod Running
