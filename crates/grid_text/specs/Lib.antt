-- What the program writes.
pub mod GridText
pub mod Settings
