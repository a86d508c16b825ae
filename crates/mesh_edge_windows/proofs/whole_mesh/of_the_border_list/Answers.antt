use Rattle.mesh_edge_windows.proofs.Bordering.{whole_mesh}
use Rattle.mesh_edge_windows.proofs.whole_mesh.of_the_border_list.Goals as goal

pub returns : goal.returns
returns c = whole_mesh
