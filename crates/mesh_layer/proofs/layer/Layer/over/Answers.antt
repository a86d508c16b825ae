use Rattle.mesh_layer.proofs.Keeping.{put_on}
use Rattle.mesh_layer.proofs.layer.Layer.over.Goals as goal

pub returns-clause-rule : goal.returns-clause-rule
returns-clause-rule g c = λ limit rule h. put_on limit rule _ _ _ c.new.ensures h
