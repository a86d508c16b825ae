pub mod Bounds
pub mod Positions
pub mod Lives
pub mod Width
