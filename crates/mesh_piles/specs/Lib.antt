-- What a report on a mesh text says.
pub mod Texts
