-- Factors and their products with coordinates.
pub mod Products
