use Rattle.mesh_reader.proofs.Words.{same_further}
use Rattle.mesh_reader.proofs.scan.Rest.content.Goals as goal

pub returns-in-Letter-clause-same : goal.returns-in-Letter-clause-same
returns-in-Letter-clause-same c =
    same_further c.args.self.now c.first_word.new.self c.behind_letter.new.self c.first_word.ensures.same c.behind_letter.ensures.same
