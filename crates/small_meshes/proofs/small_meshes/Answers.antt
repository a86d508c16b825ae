use Rattle.std.proofs.Common.{refl}
use Rattle.mesh_report.specs.Areas.{rectangle}
use Rattle.mesh_report.specs.Spelling.{spelled, entry, next_number}
use Rattle.small_meshes.proofs.Lines.{longest_line, too_long}
use Rattle.small_meshes.proofs.Runs.{in_pieces, piece_by_piece}
use Rattle.small_meshes.proofs.small_meshes.Goals as goal

pub returns : goal.returns
unfolding rectangle spelled entry next_number
returns c = record {
  empty = refl;
  empty_report = refl;
  unfinished_open = refl;
  unfinished_closed = refl;
  joined = refl;
  in_pieces = in_pieces;
  piece_by_piece = piece_by_piece;
  grid_made = refl;
  grid_events = refl;
  grid_border = refl;
  box_made = refl;
  grid_clipped = refl;
  not_live = refl;
  not_live_report = refl;
  longest_line = longest_line;
  longest_finalization = refl;
  too_long = too_long;
  tile_report = refl;
}
