use Rattle.std.proofs.Common.{◌≤◌, ◌*◌, take}
use Rattle.mesh_report.specs.Spelling.{entries_of, entry_lines}
use Rattle.mesh_report.specs.Writing.{Written}
use Rattle.mesh_report.proofs.totals.Totals.spell_entries.Given as goal

abbrev pub invariant-loop-word : goal.invariant-loop-word
invariant-loop-word l = (l.at ≤ 31 * l.word-index) × Written (entry_lines (take l.word-index (entries_of l.fn.self))) l.fn.buffer l.at l.buffer
