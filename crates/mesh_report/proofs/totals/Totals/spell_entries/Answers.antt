use Rattle.std.proofs.Common.{ℕ, ◌<◌, List, [], length, ℤ, pos, get_or, sym, ap, ◌∙◌, arith, w64, Bor, FitsSigned, rules}
use Rattle.std.proofs.lemmas.Int.{to_z-of_z}
use Rattle.std.proofs.lemmas.List.{get_or-map, length-map}
use Rattle.mesh_report.specs.Spelling.{entries_of}
use Rattle.mesh_report.proofs.Joining.{behind, same_bytes, entry_more}
use Rattle.mesh_report.proofs.totals.Totals.spell_entries.Goals as goal

abbrev said : Bor (List ℕ) × ℤ → List ℕ × ℤ
said e = (e.0.now, e.1)

pub loop-word-preserved : goal.loop-word-preserved
loop-word-preserved c =
    let i = c.loop-word.word-index in
    let all = c.entries-word-items.ensures.said in
    let f : FitsSigned w64 (get_or c.entries-word-items.result i (record { ref_ptr = (0, 0); now = [] }, pos 0)).1 = search rules in
    let l : i < length c.entries-word-items.result = omega (arith, length-map c.entries-word-items.result said, ap length all) in
    let e = sym (get_or-map said c.entries-word-items.result i _ ([], pos 0) l) ∙ ap (λ (es : List (List ℕ × ℤ)). get_or es i ([], pos 0)) all in (
      omega arith,
      same_bytes (entry_more (entries_of c.args.self.now) i _ _ _ c.loop-word-test.true (to_z-of_z w64 _ f) e)
          (behind _ _ _ _ _ _ _ c.loop-word.invariant.1 c.spell_entry-at.ensures.written),
    )
