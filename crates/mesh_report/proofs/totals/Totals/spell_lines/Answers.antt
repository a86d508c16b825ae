use Rattle.std.proofs.Common.{◌≡◌, [], ◌∷◌, ◌++◌, append_assoc, append-nil, arith}
use Rattle.mesh_stream.specs.declared.stage.Standing.{Standing}
use Rattle.mesh_report.specs.declared.totals.Totals.{Totals}
use Rattle.mesh_report.specs.Spelling.{entries_of, entry_lines, last_line, report_text}
use Rattle.mesh_report.proofs.Joining.{behind, same_bytes}
use Rattle.mesh_report.proofs.totals.Totals.spell_lines.Goals as goal

regroup : (t : Totals) (s : Standing) → (entry_lines (entries_of t) ++ last_line s) ++ (10 ∷ []) ≡ report_text t s
regroup t s = simp (append_assoc, append-nil)

pub returns : goal.returns
returns c =
    let two = behind _ _ _ _ _ _ _ c.spell_entries-at.ensures.written c.spell_standing-at.ensures.written in
    let three = behind _ _ _ _ _ _ _ two c.spell_byte.ensures in
    record { enough = c.requires; suffices = omega arith; written = same_bytes (regroup c.args.self.now c.args.standing) three }
