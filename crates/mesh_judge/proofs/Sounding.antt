-- What holds of the vertices of every accepted list.
use Rattle.std.proofs.Common.{◌≡◌, ℕ, true, false, eqb, ◌⊎◌, List, [], ◌∷◌, ◌++◌, None, sym, refl, ap, ◌∙◌, subst, inl, inr, append_assoc, append-nil}
use Rattle.std.proofs.lemmas.Bool.{both_ways, eqb-true, or_cases, false_from_ne_true}
use Rattle.mesh_stream.specs.declared.event.Event.{Event}
use Rattle.mesh_stream.specs.declared.event.Event.TheVariants.{Vertex, Triangle, Finalization}
use Rattle.mesh_stream.specs.Lists.{has, above_all}
use Rattle.mesh_stream.specs.Events.{introduced, finalized}
use Rattle.mesh_stream.proofs.Having.{Within, has_left, has_cases, above_not_has}
use Rattle.mesh_stream.proofs.Views.{introduced_v, introduced_t, introduced_f, finalized_v, finalized_t, finalized_f}
use Rattle.mesh_stream.proofs.Distinct.{Distinct, distinct_push}
use Rattle.mesh_judge.specs.Accepting.{refusal, Accepted, AcceptedAfter}
use Rattle.mesh_judge.proofs.Refusing.{vertex_ok, final_ok}
use Rattle.mesh_judge.proofs.Living.{live_introduced}

pub record Sound (es : List Event) : Type 0 where
  -- what is finalized was introduced
  pub born : Within (finalized es) (introduced es)
  pub differ : Distinct (introduced es)

module _ (es : List Event) (s : Sound es) where
  pub new_not_final : (n : ℕ) → above_all n (introduced es) ≡ true → has n (finalized es) ≡ false
  new_not_final n a = false_from_ne_true _ (λ f. both_ways (has n (introduced es)) (above_not_has n (introduced es) a) (s.born n f))

  sound_as : (fs is : List ℕ) → Within fs is → Distinct is → (e : Event) → finalized (es ++ (e ∷ [])) ≡ fs → introduced (es ++ (e ∷ [])) ≡ is → Sound (es ++ (e ∷ []))
  sound_as fs is w d e f i = record {
    born = λ m k. ap (has m) i ∙ w m (ap (has m) (sym f) ∙ k);
    differ = subst Distinct (sym i) d;
  }

  pub sound_step : (limit : ℕ) (e : Event) → refusal limit es e ≡ None → Sound (es ++ (e ∷ []))
  sound_step limit (Vertex l n v) h =
      let a = (vertex_ok limit es l n v h).above in
      sound_as (finalized es) (introduced es ++ (n ∷ [])) (λ m k. has_left m (introduced es) (n ∷ []) (s.born m k))
      (distinct_push (introduced es) n s.differ (above_not_has n (introduced es) a)) (Vertex l n v) (finalized_v es l n v) (introduced_v es l n v)
  sound_step limit (Triangle l a b c) h = sound_as (finalized es) (introduced es) s.born s.differ (Triangle l a b c) (finalized_t es l a b c) (introduced_t es l a b c)
  sound_step limit (Finalization l j) h =
      sound_as (finalized es ++ (j ∷ [])) (introduced es) (λ m k. at m (has_cases m (finalized es) (j ∷ []) k)) s.differ (Finalization l j) (finalized_f es l j) (introduced_f es l j)
    where
      at : (m : ℕ) → (has m (finalized es) ≡ true) ⊎ (has m (j ∷ []) ≡ true) → has m (introduced es) ≡ true
      at m (inl q) = s.born m q
      at m (inr q) = elim (or_cases (eqb m j) false q) [
        | inl e ↦ ap (λ z. has z (introduced es)) (eqb-true m j e) ∙ live_introduced es j (final_ok limit es l j h)
        | inr e ↦ absurd (both_ways false refl e)
      ]

sound_after : (limit : ℕ) (es before : List Event) → Sound before → AcceptedAfter (refusal limit) before es → Sound (before ++ es)
sound_after limit [] before s h = subst Sound (sym (append-nil before)) s
sound_after limit (e ∷ es) before s (a, h) = subst Sound (append_assoc before (e ∷ []) es) (sound_after limit es (before ++ (e ∷ [])) (sound_step before s limit e a) h)

pub sound : (limit : ℕ) (es : List Event) → Accepted (refusal limit) es → Sound es
sound limit es h = sound_after limit es [] (record { born = λ n k. k; differ = tt }) h
