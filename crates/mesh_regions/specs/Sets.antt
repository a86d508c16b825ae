-- The set of points that each region is.
use Rattle.std.specs.Prelude.{Bool}
use Rattle.mesh_stream.specs.declared.event.Point.{Point}
use Rattle.mesh_regions.specs.declared.aligned_box.AlignedBox.{AlignedBox}
use Rattle.mesh_regions.specs.declared.half_space.HalfSpace.{HalfSpace}
use Rattle.mesh_regions.specs.Boxes.{in_box}
use Rattle.mesh_regions.specs.HalfSpaces.{in_half_space}

abbrev pub box_points : AlignedBox → Point → Bool
box_points b = in_box b.low b.high

abbrev pub half_space_points : HalfSpace → Point → Bool
half_space_points h = in_half_space h.a h.b h.c h.d
