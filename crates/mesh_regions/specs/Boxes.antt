-- Boxes with sides along the axes.
use Rattle.std.specs.Prelude.{Bool, ◌&&◌, int_le}
use Rattle.mesh_stream.specs.declared.event.Point.{Point}
use Rattle.mesh_stream.specs.Ranges.{in_space}

-- Whether one corner is at most the other on each axis.
abbrev pub rises : Point → Point → Bool
rises low high = int_le low.x high.x && int_le low.y high.y && int_le low.z high.z

-- The corners that are allowed.
abbrev pub box_allowed : Point → Point → Bool
box_allowed low high = in_space low && in_space high && rises low high

-- The points of the box, those on its sides included.
abbrev pub in_box : Point → Point → Point → Bool
in_box low high at = rises low at && rises at high
