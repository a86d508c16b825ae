use Rattle.std.proofs.Common.{sym, inl, inr}
use Rattle.mesh_reader.proofs.FrontLines.{Looked, front_complete, front_long, front_last, front_none}
use Rattle.mesh_reader.proofs.line.front_line.Goals as goal
use Rattle.mesh_reader.proofs.line.front_line.Goals.{After-read_line-line}

looked : (c : After-read_line-line) → Looked c.args.next.line c.args.next.vertex c.args.kept.now c.min-length.result c.read_line-line.result.content c.read_line-line.result.length
looked c = let e = c.read_line-line.ensures in record { sized = c.min-length.ensures; content = e.content; stop = e.length }

pub returns-then-line-length : goal.returns-then-line-length
returns-then-line-length c = front_complete c.args.closed _ _ _ _ _ _ (looked (goal.at.returns-then-line-length c).After-read_line-line) c.if-line-length.true

pub returns-then-is_long : goal.returns-then-is_long
returns-then-is_long c = front_long c.args.closed _ _ _ _ _ _ (looked (goal.at.returns-then-is_long c).After-read_line-line) c.if-line-length.false (sym c.if-is_long.ensures)

pub returns-then-length-gt0 : goal.returns-then-length-gt0
returns-then-length-gt0 c = front_last c.args.closed _ _ _ _ _ _ (looked (goal.at.returns-then-length-gt0 c).After-read_line-line) c.if-line-length.false (sym c.if-is_long.ensures) c.if-closed.true c.if-length-gt0.true

pub returns-else-closed : goal.returns-else-closed
returns-else-closed c = front_none c.args.closed _ _ _ _ _ _ (looked (goal.at.returns-else-closed c).After-read_line-line) c.if-line-length.false (sym c.if-is_long.ensures) (elim c.else-closed.either [ inl w ↦ inr w.1 | inr e ↦ inl e ])
