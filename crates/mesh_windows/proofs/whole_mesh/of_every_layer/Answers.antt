use Rattle.mesh_rules.specs.Piling.{checks, cleans, clips, compacts, renumbers}
use Rattle.mesh_windows.specs.WholeMesh.{WholeMesh}
use Rattle.mesh_windows.proofs.Passing.{check_whole, clean_whole, clip_whole}
use Rattle.mesh_windows.proofs.Renumbering.{renumber_whole}
use Rattle.mesh_windows.proofs.Compacting.{compact_whole}
use Rattle.mesh_windows.proofs.whole_mesh.of_every_layer.Goals as goal

whole_mesh : WholeMesh
whole_mesh limit checks = check_whole limit
whole_mesh limit cleans = clean_whole limit
whole_mesh limit (clips inside) = clip_whole inside limit
whole_mesh limit compacts = compact_whole limit
whole_mesh limit renumbers = renumber_whole limit

pub returns : goal.returns
returns c = whole_mesh
