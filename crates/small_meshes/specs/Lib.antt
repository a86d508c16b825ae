-- Small meshes, each with what the definitions make of it.
pub mod SmallMeshes
