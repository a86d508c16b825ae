-- A new reader's answers on the text in three pieces.
use Rattle.std.specs.Prelude.{Ok, Err}
use Rattle.mesh_stream.specs.declared.event.Event.TheVariants.{Vertex, Finalization}
use Rattle.mesh_stream.specs.declared.stage.Standing.TheVariants.{Waiting}
use Rattle.mesh_reader.specs.Reading.{reading}
use Rattle.small_meshes.specs.SmallMeshes.{at, Answers, asked_at_the_end, asked_between}
use Rattle.small_meshes.proofs.Answering.{GoesBy, goes_by}

pub in_pieces : Answers asked_at_the_end (Ok (Vertex 1 1 (at 1 2 3))) (Ok (Finalization 2 1)) (Err Waiting)
in_pieces v w a b c n r =
    let g : GoesBy reading (asked_at_the_end a b c) = goes_by reading (asked_at_the_end a b c) v w n.means r in (g.0, g.1.0, g.1.1.0)

pub piece_by_piece : Answers asked_between (Err Waiting) (Ok (Vertex 1 1 (at 1 2 3))) (Ok (Finalization 2 1))
piece_by_piece v w a b c n r =
    let g : GoesBy reading (asked_between a b c) = goes_by reading (asked_between a b c) v w n.means r in (g.0, g.1.0, g.1.1.0)
