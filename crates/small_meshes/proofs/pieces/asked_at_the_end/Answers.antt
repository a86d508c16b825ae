use Rattle.std.proofs.Common.{refl, arith}
use Rattle.small_meshes.specs.SmallMeshes.{piece_1, piece_2, piece_3}
use Rattle.small_meshes.proofs.Readers.{view_of, new_keeps_none, fed_whole, kept_whole}
use Rattle.small_meshes.proofs.Runs.{in_pieces}
use Rattle.small_meshes.proofs.pieces.asked_at_the_end.Goals as goal

pub returns : goal.returns
returns c =
    let r0 = c.new-reader.result in
    let r1 = c.feed.new.self in
    let r2 = c.feed-2.new.self in
    let r3 = c.feed-3.new.self in
    let r4 = c.next.new.self in
    let r5 = c.next-2.new.self in
    let r6 = c.next-3.new.self in
    let f1 = c.in_ok-feed.ensures {u = tt} in
    let f2 = c.in_ok-feed-2.ensures {u = tt} in
    let f3 = c.in_ok-feed-3.ensures {u = tt} in
    let n0 = new_keeps_none r0 c.new-reader.ensures.port in
    let n1 = kept_whole r0 r1 piece_1 _ f1.rule (omega arith) f1.kept in
    let n2 = kept_whole r1 r2 piece_2 _ f2.rule (omega arith) f2.kept in
    let s1 = fed_whole r0 r1 piece_1 _ f1.rule (omega arith) in
    let s2 = fed_whole r1 r2 piece_2 _ f2.rule (omega arith) in
    let s3 = fed_whole r2 r3 piece_3 _ f3.rule (omega arith) in
    let t1 = c.next.ensures.rule in
    let t2 = c.next-2.ensures.rule in
    let t3 = c.next-3.ensures.rule in
    let made = c.new-reader.ensures in
    let a = in_pieces (view_of r0) (view_of r6) c.next.result c.next-2.result c.next-3.result
    (record { port = made.port; means = made.means })
    (view_of r1, s1, (view_of r2, s2, (view_of r3, s3, (view_of r4, t1, (view_of r5, t2, (view_of r6, t3, refl)))))) in
    cc (a.0, a.1, a.2)
