use Rattle.mesh_filters.proofs.Marking.{brings}
use Rattle.mesh_filters.proofs.compact.Compact.bring.Goals as goal

pub returns-clause-marked : goal.returns-clause-marked
returns-clause-marked c =
    let n = c.saturating_add-number in
    brings c.args.self.now.judge c.set_note.new.self c.args.self.now.given c.args.vertex n.result c.args.kept c.set_note.result
    c.requires.live c.requires.unnumbered n.ensures c.set_note.ensures
