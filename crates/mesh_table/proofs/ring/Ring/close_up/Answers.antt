use Rattle.mesh_table.proofs.Holes.{Moved, moved, alike_more}
use Rattle.mesh_table.proofs.ring.Ring.close_up.Goals as goal

step : (g : _) (c : goal.After-put-in-Some g) → Moved g.row.N c.loop-i.self.array c.put-in-Some.new.self.array c.in-Some.i
step g c =
    let s = c.loop-i.self in
    moved g.row.N s.array c.loop-i.hole s.long c.loop-i.invariant.holed c.in-Some.i c.in-Some.ensures c.slot-record.result
    c.put.new.self.array c.put-in-Some.new.self.array c.slot-record.ensures c.put.ensures c.put-in-Some.ensures

pub loop-i-preserved : goal.loop-i-preserved
loop-i-preserved g c =
    let m = step g c in
    record { holed = m.holed; alike = alike_more _ _ _ c.loop-i.invariant.alike m.alike }

pub loop-i-smaller : goal.loop-i-smaller
loop-i-smaller g c = (step g c).nearer
