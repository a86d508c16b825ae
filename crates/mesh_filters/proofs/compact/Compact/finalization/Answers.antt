use Rattle.std.proofs.Common.{◌≡◌, ℕ, None, Option, sym, refl, ap, ◌∙◌, rules}
use Rattle.mesh_stream.specs.declared.event.Event.TheVariants.{Finalization}
use Rattle.mesh_judge.specs.declared.live.Live.{Live}
use Rattle.mesh_windows.specs.Working.{compact_work, follows_if, note_of}
use Rattle.mesh_filters.specs.Compacting.{only, listed}
use Rattle.mesh_filters.proofs.Handing.{hands_over, not_handed}
use Rattle.mesh_filters.proofs.compact.Compact.finalization.Goals as goal

pub returns-in_err-kept : goal.returns-in_err-kept
returns-in_err-kept c =
    not_handed compact_work _ _ c.args.self.now.given (Finalization c.args.place c.args.vertex) listed _ _
    (c.in_err-kept.ensures c.args.place) c.from_residual.ensures.1

pub returns : goal.returns
returns c =
    let q : listed (only c.map-event.result) ≡ follows_if c.args.place c.in_ok-kept.kept.note = search rules in
    hands_over compact_work _ _ c.args.self.now.given c.args.self.now.given (Finalization c.args.place c.args.vertex) _ (listed c.only.result)
    (c.in_ok-kept.ensures.0 c.args.place) refl
    (ap listed c.only.ensures ∙ q
    ∙ ap (λ (o : Option (Live (Option ℕ))). follows_if c.args.place (note_of None o)) (sym c.in_ok-kept.ensures.1))
