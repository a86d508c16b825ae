use Rattle.std.proofs.Common.{rules}
use Rattle.mesh_reader.specs.Numerals.{coordinate_of}
use Rattle.mesh_reader.specs.Reading.{vertex_event}
use Rattle.mesh_reader.proofs.Threes.{none_made, one_made}
use Rattle.mesh_reader.proofs.line.vertex.Goals as goal

pub returns-in_err-x : goal.returns-in_err-x
returns-in_err-x c =
    search (rules, none_made coordinate_of (vertex_event c.args.next.line c.args.next.vertex) c.args.words _ (c.three.ensures coordinate_of (search rules)) _ c.in_err-x.was)

pub returns : goal.returns
returns c =
    search (rules, one_made coordinate_of (vertex_event c.args.next.line c.args.next.vertex) c.args.words _ (c.three.ensures coordinate_of (search rules)) _ _ _ c.in_ok-x.was)
