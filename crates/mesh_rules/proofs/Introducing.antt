-- In an accepted list a vertex is introduced once, and named no more once it is finalized.
use Rattle.std.proofs.Common.{◌≡◌, ℕ, Bool, true, false, ◌||◌, eqb, List, [], ◌∷◌, ◌++◌, sym, refl, ap, ◌∙◌}
use Rattle.std.proofs.lemmas.Bool.{and_parts, both_ways, eqb-true, or_left, or_from, false_from_ne_true}
use Rattle.mesh_stream.specs.declared.event.Point.{Point}
use Rattle.mesh_stream.specs.declared.event.Event.{Event}
use Rattle.mesh_stream.specs.declared.event.Event.TheVariants.{Vertex, Triangle, Finalization}
use Rattle.mesh_stream.specs.Lists.{has}
use Rattle.mesh_stream.specs.Events.{introduced, finalized}
use Rattle.mesh_stream.specs.Live.{is_live}
use Rattle.mesh_stream.specs.Ranges.{in_space, vertex_number}
use Rattle.mesh_judge.specs.Accepting.{refusal, Accepted, AcceptedAfter}
use Rattle.mesh_rules.specs.Rewriting.{named, introduces, introduction}
use Rattle.mesh_stream.proofs.Having.{kept_yes, kept_no, has_left, not_has_nil, above_not_has}
use Rattle.mesh_stream.proofs.Views.{introduced_v, introduced_t, introduced_f, finalized_v, finalized_t, finalized_f}
use Rattle.mesh_judge.proofs.Refusing.{vertex_ok, triangle_ok}
use Rattle.mesh_rules.proofs.Having.{has_right}
use Rattle.mesh_rules.proofs.Living.{live_not_final}

-- what differs in having differs
pub has_differ : (n m : ℕ) (xs : List ℕ) → has n xs ≡ true → has m xs ≡ false → eqb n m ≡ false
has_differ n m xs h k = false_from_ne_true (eqb n m) (λ e. both_ways (has m xs) k (ap (λ z. has z xs) (sym (eqb-true n m e)) ∙ h))

pub not_again : (limit n : ℕ) (es before : List Event) → AcceptedAfter (refusal limit) before es → has n (introduced before) ≡ true
    → introduction es n ≡ []
not_again limit n [] before h k = refl
not_again limit n (Vertex l m v ∷ es) before (a, h) k =
    kept_no (introduces n) (Vertex l m v) es (has_differ n m (introduced before) k (above_not_has m (introduced before) (vertex_ok limit before l m v a).above))
    ∙ not_again limit n es (before ++ (Vertex l m v ∷ [])) h (ap (has n) (introduced_v before l m v) ∙ has_left n (introduced before) (m ∷ []) k)
not_again limit n (Triangle l a b c ∷ es) before (q, h) k =
    not_again limit n es (before ++ (Triangle l a b c ∷ [])) h (ap (has n) (introduced_t before l a b c) ∙ k)
not_again limit n (Finalization l i ∷ es) before (q, h) k =
    not_again limit n es (before ++ (Finalization l i ∷ [])) h (ap (has n) (introduced_f before l i) ∙ k)

pub not_named : (limit n : ℕ) (es before : List Event) → AcceptedAfter (refusal limit) before es → has n (finalized before) ≡ true
    → has n (named es) ≡ false
not_named limit n [] before h k = refl
not_named limit n (Vertex l m v ∷ es) before (a, h) k =
    not_named limit n es (before ++ (Vertex l m v ∷ [])) h (ap (has n) (finalized_v before l m v) ∙ k)
not_named limit n (Triangle l a b c ∷ es) before (q, h) k =
    let t = triangle_ok limit before l a b c q in
    or_from _ _ (differs a t.first) (or_from _ _ (differs b t.second) (or_from _ _ (differs c t.third)
    (not_named limit n es (before ++ (Triangle l a b c ∷ [])) h (ap (has n) (finalized_t before l a b c) ∙ k))))
  where
    differs : (m : ℕ) → is_live before m ≡ true → eqb n m ≡ false
    differs m y = has_differ n m (finalized before) k (live_not_final before m y)
not_named limit n (Finalization l i ∷ es) before (q, h) k =
    not_named limit n es (before ++ (Finalization l i ∷ [])) h (ap (has n) (finalized_f before l i) ∙ has_left n (finalized before) (i ∷ []) k)

-- The one event that introduces a vertex.
pub record Introduced (n : ℕ) (es : List Event) : Type 0 where
  pub place : ℕ
  pub at : Point
  pub it : introduction es n ≡ Vertex place n at ∷ []
  pub fits : in_space at ≡ true

-- the same of a list that goes on from an event that does not introduce it
not_here : (n : ℕ) (e : Event) (es : List Event) → introduces n e ≡ false → Introduced n es → Introduced n (e ∷ es)
not_here n e es h i = record { place = i.place; at = i.at; it = kept_no (introduces n) e es h ∙ i.it; fits = i.fits }

introduced_after : (limit n : ℕ) (es before : List Event) → AcceptedAfter (refusal limit) before es → has n (introduced es) ≡ true
    → Introduced n es
introduced_after limit n [] before h k = absurd (not_has_nil n k)
introduced_after limit n (Vertex l m v ∷ es) before (a, h) k =
    here (eqb n m) refl (introduced_after limit n es (before ++ (Vertex l m v ∷ [])) h)
  where
    no_more : eqb n m ≡ true → introduction es n ≡ []
    no_more e =
        not_again limit n es (before ++ (Vertex l m v ∷ [])) h
        (ap (has n) (introduced_v before l m v) ∙ has_right n (introduced before) (m ∷ []) (or_left _ _ e))

    here : (b : Bool) → eqb n m ≡ b → (has n (introduced es) ≡ true → Introduced n es) → Introduced n (Vertex l m v ∷ es)
    here true e ih = record {
      place = l;
      at = v;
      it =
          kept_yes (introduces n) (Vertex l m v) es e ∙ ap (λ (z : List Event). Vertex l m v ∷ z) (no_more e)
          ∙ ap (λ (z : ℕ). Vertex l z v ∷ []) (sym (eqb-true n m e));
      fits = (and_parts (in_space v) (vertex_number m) (vertex_ok limit before l m v a).in_range).0;
    }
    here false e ih = not_here n (Vertex l m v) es e (ih (sym (ap (λ b. b || has n (introduced es)) e) ∙ k))
introduced_after limit n (Triangle l a b c ∷ es) before (q, h) k =
    not_here n (Triangle l a b c) es refl (introduced_after limit n es (before ++ (Triangle l a b c ∷ [])) h k)
introduced_after limit n (Finalization l j ∷ es) before (q, h) k =
    not_here n (Finalization l j) es refl (introduced_after limit n es (before ++ (Finalization l j ∷ [])) h k)

pub introduced_once : (limit n : ℕ) (es : List Event) → Accepted (refusal limit) es → has n (introduced es) ≡ true → Introduced n es
introduced_once limit n es ok k = introduced_after limit n es [] ok k
