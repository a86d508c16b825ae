use Rattle.mesh_filters.proofs.Bits.{coordinates, both_passed, distance_passed}
use Rattle.mesh_filters.proofs.clean.vector.Vector.from_to.Goals as goal

pub distance-requires : goal.distance-requires
distance-requires c = both_passed c.args.a.x c.args.b.x (coordinates c.args.a c.requires.0).0 (coordinates c.args.b c.requires.1).0

pub distance-requires-2 : goal.distance-requires-2
distance-requires-2 c = both_passed c.args.a.y c.args.b.y (coordinates c.args.a c.requires.0).1 (coordinates c.args.b c.requires.1).1

pub distance-requires-3 : goal.distance-requires-3
distance-requires-3 c = both_passed c.args.a.z c.args.b.z (coordinates c.args.a c.requires.0).2 (coordinates c.args.b c.requires.1).2

pub returns : goal.returns
returns c =
    let a = c.args.a in
    let b = c.args.b in
    let h = coordinates a c.requires.0 in
    let k = coordinates b c.requires.1 in
    let x = distance_passed c.distance.result a.x b.x (record { sfits = c.distance.type_inv }) c.distance.ensures.0 h.0 k.0 in
    let y = distance_passed c.distance-2.result a.y b.y (record { sfits = c.distance-2.type_inv }) c.distance-2.ensures.0 h.1 k.1 in
    let z = distance_passed c.distance-3.result a.z b.z (record { sfits = c.distance-3.type_inv }) c.distance-3.ensures.0 h.2 k.2 in
    λ i. record { x = x i; y = y i; z = z i }
