use Rattle.std.proofs.Common.{arith, length, ◌≡◌, slice_index_or, refl, [], ◌/◌, ◌<◌}
use Rattle.mesh_border.proofs.Rows.{all_bits}
use Rattle.mesh_border.proofs.neighbours.Neighbours.set.Goals as goal

pub returns : goal.returns
returns c =
    let rows = c.args.self.now.bits in
    let wide : length (slice_index_or rows c.from.result []) ≡ 16 = c.args.self.now.wide c.from.result (omega arith) in
    let in_row : c.from-column.result / 64 < length (slice_index_or rows c.from.result []) = omega arith in
    record {
      bits = λ r q.
          rw (← c.from.ensures, ← c.from-column.ensures)
          (all_bits rows c.from.result c.from-column.result (omega arith) in_row r q);
      rows = record { vertices = λ r. refl; free = refl };
    }
