-- What a filter finds in the corners that its judge answers, as its window has it.
use Rattle.std.proofs.Common.{◌≡◌, ℕ, Bool, true, false, sym, refl}
use Rattle.std.specs.Bool.{then_some}
use Rattle.mesh_stream.specs.declared.event.Event.{Event}
use Rattle.mesh_judge.specs.declared.live.Corners.{Corners}
use Rattle.mesh_judge.specs.Windows.{Window}
use Rattle.mesh_judge.specs.Judging.{Cornered}
use Rattle.mesh_rules.specs.Degenerate.{degenerate}
use Rattle.mesh_windows.specs.Working.{only_if, point_of, note_of}
use Rattle.mesh_filters.specs.Handing.{events_of}

pub listed_if : (b : Bool) (e : Event) → events_of (then_some b e) ≡ only_if b e
listed_if true e = refl
listed_if false e = refl

module _ {T : Type 0} (w : Window T) (a b c : ℕ) (s : Corners T) (k : Cornered w a b c s) where
  pub degenerate_corners : degenerate s.a.at s.b.at s.c.at ≡ degenerate (point_of (w.at a)) (point_of (w.at b)) (point_of (w.at c))
  degenerate_corners = λ i. degenerate (point_of (sym k.first.0 i)) (point_of (sym k.second.0 i)) (point_of (sym k.third.0 i))

  pub by_notes : {A : Type 0} (none : T) (f : T → T → T → A)
      → f s.a.note s.b.note s.c.note ≡ f (note_of none (w.at a)) (note_of none (w.at b)) (note_of none (w.at c))
  by_notes none f = λ i. f (note_of none (sym k.first.0 i)) (note_of none (sym k.second.0 i)) (note_of none (sym k.third.0 i))
