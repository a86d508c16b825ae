-- The machine of a layer, and what each layer does by it.
pub mod Windowing
pub mod Working
-- That it gives what the rules make of the whole list.
pub mod WholeMesh
