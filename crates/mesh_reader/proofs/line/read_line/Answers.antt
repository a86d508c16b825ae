use Rattle.std.proofs.Common.{◌≡◌, ap, ◌∙◌, arith, length}
use Rattle.mesh_reader.specs.Text.{line_end}
use Rattle.mesh_reader.specs.Scanning.{behind}
use Rattle.mesh_reader.proofs.Words.{front_length}
use Rattle.mesh_reader.proofs.line.read_line.Goals as goal

lengths : (c : goal.After-rest) → length c.rest.inside.bytes.now ≡ length (behind line_end c.args.bytes.now)
lengths c = ap length (c.rest.view_is ∙ c.skip_line.ensures ∙ c.content-content.ensures.same.stays)

pub overflow_sub-result : goal.overflow_sub-result
overflow_sub-result c = let l = lengths c in let f = front_length line_end c.args.bytes.now in omega arith

pub returns-clause-length : goal.returns-clause-length
returns-clause-length c = let l = lengths c in let f = front_length line_end c.args.bytes.now in omega arith
