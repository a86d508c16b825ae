use Rattle.std.proofs.Common.{w64}
use Rattle.std.proofs.lemmas.Int.{to_z-of_z}
use Rattle.mesh_report.specs.Spelling.{entry, as_line}
use Rattle.mesh_report.proofs.Joining.{behind, same_bytes}
use Rattle.mesh_report.proofs.spelling.entry.spell_entry.Goals as goal

pub returns-clause-written : goal.returns-clause-written
unfolding entry
returns-clause-written c =
    let two = behind _ _ _ _ _ _ _ c.spell_text-at.ensures c.spell_signed-at.ensures.written in
    let number = to_z-of_z w64 _ c.ranges.number in
    same_bytes (λ i. as_line (entry c.args.word.now (number i))) (behind _ _ _ _ _ _ _ two c.spell_byte.ensures)
