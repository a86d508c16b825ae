-- What the program prints.
pub mod Border
