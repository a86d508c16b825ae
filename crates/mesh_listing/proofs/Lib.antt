pub mod Printing
mod Reach
mod Turns
