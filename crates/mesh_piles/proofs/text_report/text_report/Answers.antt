use Rattle.std.proofs.Common.{ap, ◌∙◌}
use Rattle.mesh_stream.specs.Meaning.{closed}
use Rattle.mesh_rules.specs.Piling.{checks, cleans, compacts, through}
use Rattle.mesh_piles.proofs.Saying.{said_of}
use Rattle.mesh_piles.proofs.text_report.text_report.Goals as goal

pub returns : goal.returns
returns c = λ t.
    let checked = c.check.ensures.by_rule t closed ∙ ap (through 1024 checks) (c.new.ensures.means t closed) in
    let cleaned = c.clean.ensures.by_rule t closed ∙ ap (through 1024 cleans) checked in
    said_of _ _ t _ _ (c.compact.ensures.by_rule t closed ∙ ap (through 1024 compacts) cleaned) (c.new-2.ensures t)
