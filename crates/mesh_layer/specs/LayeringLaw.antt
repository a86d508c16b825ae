-- A filter over a lawful stage is a lawful stage.
use Rattle.std.specs.Prelude.{◌≡◌, refl, List, [], ◌++◌, Some, None, Option}
use Rattle.std.proofs.Common.{sym, ap, subst, ◌⊎◌, inl, inr}
use Rattle.mesh_stream.specs.declared.fault.Fault.{Fault}
use Rattle.mesh_stream.specs.declared.stage.Standing.{Standing}
use Rattle.mesh_stream.specs.declared.stage.Standing.TheVariants.{Waiting, Ended, Faulty}
use Rattle.mesh_stream.specs.Meaning.{unclosed, Outcome, outcome, Meaning, Port, Begins, IsWaiting, Fixed, Lawful}
use Rattle.mesh_layer.specs.Filtering.{Filtering}

-- A layer that is at fault gives nothing any more, whatever is below.
abbrev pub unless_faulty : {I O : Type 0} → Option Fault → (Outcome I → Outcome O) → Outcome I → Outcome O
unless_faulty (Some f) F o = outcome [] (Faulty f)
unless_faulty None F o = F o

pub unless_faulty_filters : {I O : Type 0} {F : Outcome I → Outcome O} (fault : Option Fault) → Filtering F
    → Filtering (unless_faulty fault F)
unless_faulty_filters (Some f) k = record {
  begins = λ xs ys s r. ([], refl);
  waits = λ o w. absurd w;
  stops = λ xs ys s r w n. refl;
}
unless_faulty_filters None k = k

waiting_or_not : (s : Standing) → IsWaiting s ⊎ (IsWaiting s → ⊥)
waiting_or_not Waiting = inl tt
waiting_or_not Ended = inr (λ x. x)
waiting_or_not (Faulty f) = inr (λ x. x)

module _ {I O : Type 0} {F : Outcome I → Outcome O} {p : Port} {G : Meaning I} (f : Filtering F) (l : Lawful p G) where
  begun : (o n : Outcome I) → Begins o.items n.items → Begins (F o).items (F n).items
  begun o n (zs, e) =
      let at : List I → Type 0 = λ xs. Begins (F o).items (F (outcome xs n.stands)).items
      in subst at (sym e) (f.begins o.items zs o.stands n.stands)

  fixed_by : (o n : Outcome I) → IsWaiting o.stands → (IsWaiting (F o).stands → ⊥) → Begins o.items n.items → F n ≡ F o
  fixed_by o n w h (zs, e) =
      let at : List I → Type 0 = λ xs. F (outcome xs n.stands) ≡ F o
      in subst at (sym e) (f.stops o.items zs o.stands n.stands w h)

  settled_by : (IsWaiting (F (G [] unclosed)).stands → ⊥) → IsWaiting (G [] unclosed).stands ⊎ (IsWaiting (G [] unclosed).stands → ⊥)
      → Fixed (λ t m. F (G t m))
  settled_by h (inl w) t m = fixed_by (G [] unclosed) (G t m) w h (l.grows [] t m)
  settled_by h (inr n) t m = ap F (l.settled n t m)

  pub layered_lawful : Lawful p (λ t m. F (G t m))
  layered_lawful = record {
    grows = λ t u m. begun (G t unclosed) (G (t ++ u) m) (l.grows t u m);
    settles = λ t w. l.settles t (f.waits (G t _) w);
    settled = λ h. settled_by h (waiting_or_not (G [] unclosed).stands);
    shut_fixed = λ e t m. ap F (l.shut_fixed e t m);
  }
