use Rattle.std.proofs.Common.{rules, sym}
use Rattle.mesh_stream.specs.declared.event.Event.TheVariants.{Triangle}
use Rattle.mesh_reader.specs.Numerals.{vertex_of}
use Rattle.mesh_reader.proofs.Threes.{none_made, one_made}
use Rattle.mesh_reader.proofs.line.triangle.Goals as goal

pub returns-in_err-a : goal.returns-in_err-a
returns-in_err-a c = search (rules, none_made vertex_of (Triangle c.args.place) c.args.words _ (c.three.ensures vertex_of (search rules)) _ c.in_err-a.was)

pub returns : goal.returns
returns c = sym (one_made vertex_of (Triangle c.args.place) c.args.words _ (c.three.ensures vertex_of (search rules)) _ _ _ c.in_ok-a.was)
