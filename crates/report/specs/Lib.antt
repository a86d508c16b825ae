-- What is answered of a text.
pub mod Answering
