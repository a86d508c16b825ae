-- Events and what is said of lists of them.
pub mod Lists
pub mod Events
pub mod Live
pub mod Ranges
-- Causes, refusals and names, and how things are shown.
pub mod Numbers
pub mod Shown
-- Stages, their calls, and lists of calls.
pub mod Meaning
pub mod Calls
pub mod Runs
