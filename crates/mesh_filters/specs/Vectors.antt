-- The vectors that clean works with.
use Rattle.mesh_rules.specs.Degenerate.{Vector as VectorOf}
use Rattle.mesh_filters.specs.declared.clean.vector.Vector.{Vector}

abbrev pub vector_of : Vector → VectorOf
vector_of v = record { x = v.x; y = v.y; z = v.z }
