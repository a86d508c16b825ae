-- A list thinned so that what is left of it names only vertices that are left: clean and clip.
use Rattle.std.proofs.Common.{◌≡◌, ℕ, suc, ◌≤◌, Bool, true, false, cond, not, ◌&&◌, List, [], ◌∷◌, ◌++◌, length, None, filter, sym, refl, ap, ◌∙◌, subst, append-nil, arith}
use Rattle.std.proofs.lemmas.Bool.{and_parts}
use Rattle.std.proofs.lemmas.List.Elements.{filter-append, filter_agree}
use Rattle.mesh_stream.specs.declared.event.Point.{Point}
use Rattle.mesh_stream.specs.declared.event.Event.{Event}
use Rattle.mesh_stream.specs.declared.event.Event.TheVariants.{Vertex, Triangle, Finalization}
use Rattle.mesh_stream.specs.Lists.{has, above_all}
use Rattle.mesh_stream.specs.Events.{introduced, finalized, triangles, point}
use Rattle.mesh_stream.specs.Live.{live, is_live}
use Rattle.mesh_stream.proofs.Having.{kept_yes, kept_no, has_filter}
use Rattle.mesh_judge.specs.Accepting.{refusal, Accepted, AcceptedAfter}
use Rattle.mesh_judge.proofs.Living.{kept_twice}
use Rattle.mesh_judge.proofs.Refusing.{vertex_ok, triangle_ok, final_ok}
use Rattle.mesh_rules.specs.Rewriting.{is_sound, cleaned, names_kept, clipped}
use Rattle.mesh_rules.proofs.Having.{kept_len, has_kept, above_kept}
use Rattle.mesh_rules.proofs.Refusing.{ok_vertex, ok_triangle, ok_final}

-- A test of events that goes by a test of vertices.
pub record Thins (p : Event → Bool) (q : ℕ → Bool) : Type 0 where
  pub vertices : (l n : ℕ) (at : Point) → p (Vertex l n at) ≡ q n
  pub corners : (l a b c : ℕ) → p (Triangle l a b c) ≡ true → (q a ≡ true) × (q b ≡ true) × (q c ≡ true)
  pub finals : (l i : ℕ) → p (Finalization l i) ≡ q i

module _ (p : Event → Bool) where
  -- a view that does not see an event does not see whether it is kept
  not_seen : {X : Type 0} (view : List Event → X) (e : Event) → ((zs : List Event) → view (e ∷ zs) ≡ view zs)
      → (es : List Event) → view (filter p (e ∷ es)) ≡ view (filter p es)
  not_seen view e h es = at (p e)
    where
      at : (b : Bool) → view (cond b (e ∷ filter p es) (filter p es)) ≡ view (filter p es)
      at true = h (filter p es)
      at false = refl

  -- an event that a view sees as a number is kept as the number is
  seen_as : (q : ℕ → Bool) (view : List Event → List ℕ) (e : Event) (n : ℕ) → ((zs : List Event) → view (e ∷ zs) ≡ n ∷ view zs) → p e ≡ q n
      → (es : List Event) → view (filter p es) ≡ filter q (view es) → view (filter p (e ∷ es)) ≡ filter q (view (e ∷ es))
  seen_as q view e n h pq es ih = ap (λ b. view (cond b (e ∷ filter p es) (filter p es))) pq ∙ at (q n) ∙ sym (ap (filter q) (h es))
    where
      at : (b : Bool) → view (cond b (e ∷ filter p es) (filter p es)) ≡ cond b (n ∷ filter q (view es)) (filter q (view es))
      at true = h (filter p es) ∙ ap (λ (z : List ℕ). n ∷ z) ih
      at false = ih

  triangles_thin : (es : List Event) → triangles (filter p es) ≤ triangles es
  triangles_thin [] = omega arith
  triangles_thin (Vertex l n v ∷ es) = omega (arith, not_seen triangles (Vertex l n v) (λ zs. refl) es, triangles_thin es)
  triangles_thin (Triangle l a b c ∷ es) = at (p (Triangle l a b c)) (triangles_thin es)
    where
      at : (t : Bool) → triangles (filter p es) ≤ triangles es
          → triangles (cond t (Triangle l a b c ∷ filter p es) (filter p es)) ≤ suc (triangles es)
      at true h = omega arith
      at false h = omega arith
  triangles_thin (Finalization l i ∷ es) = omega (arith, not_seen triangles (Finalization l i) (λ zs. refl) es, triangles_thin es)

module _ (p : Event → Bool) (q : ℕ → Bool) (th : Thins p q) where
  introduced_thin : (es : List Event) → introduced (filter p es) ≡ filter q (introduced es)
  introduced_thin [] = refl
  introduced_thin (Vertex l n v ∷ es) = seen_as p q introduced (Vertex l n v) n (λ zs. refl) (th.vertices l n v) es (introduced_thin es)
  introduced_thin (Triangle l a b c ∷ es) = not_seen p introduced (Triangle l a b c) (λ zs. refl) es ∙ introduced_thin es
  introduced_thin (Finalization l i ∷ es) = not_seen p introduced (Finalization l i) (λ zs. refl) es ∙ introduced_thin es

  finalized_thin : (es : List Event) → finalized (filter p es) ≡ filter q (finalized es)
  finalized_thin [] = refl
  finalized_thin (Vertex l n v ∷ es) = not_seen p finalized (Vertex l n v) (λ zs. refl) es ∙ finalized_thin es
  finalized_thin (Triangle l a b c ∷ es) = not_seen p finalized (Triangle l a b c) (λ zs. refl) es ∙ finalized_thin es
  finalized_thin (Finalization l i ∷ es) = seen_as p q finalized (Finalization l i) i (λ zs. refl) (th.finals l i) es (finalized_thin es)

  -- the live ones left are the live ones, thinned
  minus : (fs is : List ℕ) → filter (λ n. not (has n (filter q fs))) (filter q is) ≡ filter q (filter (λ n. not (has n fs)) is)
  minus fs is =
      sym (kept_twice (λ n. not (has n (filter q fs))) q is)
      ∙ filter_agree _ _ (λ n. ap (λ b. q n && not b) (has_filter q n fs) ∙ same (q n) (has n fs)) is
      ∙ kept_twice q (λ n. not (has n fs)) is
    where
      same : (b c : Bool) → (b && not (b && c)) ≡ (not c && b)
      same true true = refl
      same true false = refl
      same false true = refl
      same false false = refl

  pub live_thin : (es : List Event) → live (filter p es) ≡ filter q (live es)
  live_thin es = ap (λ (is : List ℕ). filter (λ n. not (has n (finalized (filter p es)))) is) (introduced_thin es)
      ∙ ap (λ (fs : List ℕ). filter (λ n. not (has n fs)) (filter q (introduced es))) (finalized_thin es)
      ∙ minus (finalized es) (introduced es)

  live_stays : (es : List Event) (n : ℕ) → q n ≡ true → is_live es n ≡ true → is_live (filter p es) n ≡ true
  live_stays es n y h = ap (has n) (live_thin es) ∙ has_kept q n y (live es) ∙ h

  live_fewer : (es : List Event) → length (live (filter p es)) ≤ length (live es)
  live_fewer es = subst (λ (k : ℕ). k ≤ length (live es)) (sym (ap length (live_thin es))) (kept_len q (live es))

  refusal_thin : (limit : ℕ) (before : List Event) (e : Event) → p e ≡ true → refusal limit before e ≡ None
      → refusal limit (filter p before) e ≡ None
  refusal_thin limit before (Vertex l n v) y h =
      let k = vertex_ok limit before l n v h in
      let fewer = live_fewer before in
      ok_vertex limit (filter p before) l n v (record {
        in_range = k.in_range;
        above = ap (above_all n) (introduced_thin before) ∙ above_kept q n (introduced before) k.above;
        room = omega (arith, k.room);
      })
  refusal_thin limit before (Triangle l a b c) y h =
      let k = triangle_ok limit before l a b c h in
      let t = th.corners l a b c y in
      ok_triangle limit (filter p before) l a b c (record {
        first = live_stays before a t.0 k.first;
        second = live_stays before b t.1 k.second;
        third = live_stays before c t.2 k.third;
        few = omega (arith, k.few, triangles_thin p before);
      })
  refusal_thin limit before (Finalization l i) y h =
      ok_final limit (filter p before) l i (live_stays before i (sym (th.finals l i) ∙ y) (final_ok limit before l i h))

  kept_snoc_yes : (before : List Event) (e : Event) → p e ≡ true → filter p (before ++ (e ∷ [])) ≡ filter p before ++ (e ∷ [])
  kept_snoc_yes before e y = filter-append p before (e ∷ []) ∙ ap (λ (z : List Event). filter p before ++ z) (kept_yes p e [] y)

  kept_snoc_no : (before : List Event) (e : Event) → p e ≡ false → filter p (before ++ (e ∷ [])) ≡ filter p before
  kept_snoc_no before e y =
      filter-append p before (e ∷ []) ∙ ap (λ (z : List Event). filter p before ++ z) (kept_no p e [] y) ∙ append-nil (filter p before)

  pub thin_accepted : (limit : ℕ) (es before : List Event) → AcceptedAfter (refusal limit) before es
      → AcceptedAfter (refusal limit) (filter p before) (filter p es)
  thin_accepted limit [] before h = tt
  thin_accepted limit (e ∷ es) before (a, h) = at (p e) refl (thin_accepted limit es (before ++ (e ∷ [])) h)
    where
      at : (b : Bool) → p e ≡ b → AcceptedAfter (refusal limit) (filter p (before ++ (e ∷ []))) (filter p es)
          → AcceptedAfter (refusal limit) (filter p before) (filter p (e ∷ es))
      at true y ih =
          let A : List Event → Type 0 = λ z. AcceptedAfter (refusal limit) z (filter p es) in
          let B : List Event → Type 0 = λ z. AcceptedAfter (refusal limit) (filter p before) z in
          subst B (sym (kept_yes p e es y)) (refusal_thin limit before e y a, subst A (kept_snoc_yes before e y) ih)
      at false y ih =
          let A : List Event → Type 0 = λ z. AcceptedAfter (refusal limit) z (filter p es) in
          let B : List Event → Type 0 = λ z. AcceptedAfter (refusal limit) (filter p before) z in
          subst B (sym (kept_no p e es y)) (subst A (kept_snoc_no before e y) ih)

  pub thin_none_live : (es : List Event) → live es ≡ [] → live (filter p es) ≡ []
  thin_none_live es e = live_thin es ∙ ap (filter q) e

clean_thins : (at : ℕ → Point) → Thins (is_sound at) (λ n. true)
clean_thins at = record { vertices = λ l n v. refl; corners = λ l a b c h. (refl, refl, refl); finals = λ l i. refl }

clip_thins : (q : ℕ → Bool) → Thins (names_kept q) q
clip_thins q = record {
  vertices = λ l n v. refl;
  corners = λ l a b c h. let t = and_parts (q a && q b) (q c) h in let s = and_parts (q a) (q b) t.0 in (s.0, s.1, t.1);
  finals = λ l i. refl;
}

pub clean_accepted : (limit : ℕ) (es : List Event) → Accepted (refusal limit) es → Accepted (refusal limit) (cleaned es)
clean_accepted limit es h = thin_accepted (is_sound (point es)) (λ n. true) (clean_thins (point es)) limit es [] h

pub clean_none_live : (es : List Event) → live es ≡ [] → live (cleaned es) ≡ []
clean_none_live es = thin_none_live (is_sound (point es)) (λ n. true) (clean_thins (point es)) es

pub clip_accepted : (limit : ℕ) (inside : Point → Bool) (es : List Event) → Accepted (refusal limit) es
    → Accepted (refusal limit) (clipped inside es)
clip_accepted limit inside es h = thin_accepted _ _ (clip_thins (λ n. inside (point es n))) limit es [] h

pub clip_none_live : (inside : Point → Bool) (es : List Event) → live es ≡ [] → live (clipped inside es) ≡ []
clip_none_live inside es = thin_none_live _ _ (clip_thins (λ n. inside (point es n))) es
