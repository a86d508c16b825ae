-- Which vertices compact has handed over after a list, and what it moves for one event more.
use Rattle.std.proofs.Common.{◌≡◌, ℕ, Bool, true, false, cond, ◌||◌, eqb, List, [], ◌∷◌, ◌++◌, map, None, flat_map, sym, refl, ap, ◌∙◌, subst, inl, inr, append_assoc, append-nil}
use Rattle.std.specs.List.{AllByRecursion as All}
use Rattle.std.proofs.lemmas.Bool.{both_ways, eqb-true, or_cases, or_left, or_right, false_from_ne_true}
use Rattle.mesh_stream.specs.declared.event.Point.{Point}
use Rattle.mesh_stream.specs.declared.event.Event.{Event}
use Rattle.mesh_stream.specs.declared.event.Event.TheVariants.{Vertex, Triangle, Finalization}
use Rattle.mesh_stream.specs.Lists.{has}
use Rattle.mesh_stream.specs.Events.{introduced, point, birthplace}
use Rattle.mesh_stream.specs.Live.{is_live}
use Rattle.mesh_stream.proofs.Having.{has_self, not_has_nil, above_not_has}
use Rattle.mesh_stream.proofs.Views.{introduced-++, introduced_v}
use Rattle.mesh_judge.specs.Accepting.{refusal, Accepted, AcceptedAfter}
use Rattle.mesh_judge.proofs.Refusing.{vertex_ok, triangle_ok}
use Rattle.mesh_judge.proofs.Living.{live_introduced}
use Rattle.mesh_judge.proofs.Knowing.{accepted_push}
use Rattle.mesh_rules.specs.Rewriting.{renamed, named, introduction, unseen, moved}
use Rattle.mesh_rules.proofs.Having.{has-++, has_right}
use Rattle.mesh_rules.proofs.Views.{named_v, named_t, named_f}
use Rattle.mesh_rules.proofs.Introducing.{not_again}
use Rattle.mesh_rules.proofs.Compacting.{of_three}
use Rattle.mesh_rules.proofs.Naming.{Known}
use Rattle.mesh_rules.proofs.Prefixes.{seen_after, moved_more, same_vertex}
use Rattle.mesh_windows.proofs.Passing.{known_own}
use Rattle.mesh_windows.proofs.Unseen.{unseen_same, has_unseen, unseen_within}

-- the vertices that compact hands over for a list, in the order in which it does
abbrev pub handed_over : List Event → List ℕ
handed_over es = introduced (moved es [] es)

-- the corners of a triangle that no triangle of the list names
abbrev pub firsts : List Event → ℕ → ℕ → ℕ → List ℕ
firsts es a b c = unseen (handed_over es) (a ∷ b ∷ c ∷ [])

-- a vertex of the list, under a new number
abbrev pub under : List Event → (ℕ → ℕ) → ℕ → Event
under es f n = Vertex (birthplace es n) (f n) (point es n)

-- The one event that introduces a vertex, as looked up.
introduction_is : (limit n : ℕ) (es before : List Event) → AcceptedAfter (refusal limit) before es → has n (introduced es) ≡ true
    → introduction es n ≡ under es (λ i. i) n ∷ []
introduction_is limit n [] before h k = absurd (not_has_nil n k)
introduction_is limit n (Vertex l m v ∷ es) before (a, h) k =
    here (eqb n m) refl (introduction_is limit n es (before ++ (Vertex l m v ∷ [])) h)
  where
    again : eqb n m ≡ true → has n (introduced (before ++ (Vertex l m v ∷ []))) ≡ true
    again e = ap (has n) (introduced_v before l m v) ∙ has_right n (introduced before) (m ∷ []) (or_left _ _ e)

    here : (b : Bool) → eqb n m ≡ b → (has n (introduced es) ≡ true → introduction es n ≡ under es (λ i. i) n ∷ [])
        → cond b (Vertex l m v ∷ introduction es n) (introduction es n) ≡ Vertex (cond b l (birthplace es n)) n (cond b v (point es n)) ∷ []
    here true e ih =
        ap (λ (z : List Event). Vertex l m v ∷ z) (not_again limit n es (before ++ (Vertex l m v ∷ [])) h (again e))
        ∙ ap (λ (z : ℕ). Vertex l z v ∷ []) (sym (eqb-true n m e))
    here false e ih = ih (sym (ap (λ b. b || has n (introduced es)) e) ∙ k)
introduction_is limit n (Triangle l a b c ∷ es) before (q, h) k = introduction_is limit n es (before ++ (Triangle l a b c ∷ [])) h k
introduction_is limit n (Finalization l i ∷ es) before (q, h) k = introduction_is limit n es (before ++ (Finalization l i ∷ [])) h k

-- What was seen after a list: what its triangles name.

or_swap : (b s t : Bool) → ((b || s) || t) ≡ (s || (b || t))
or_swap true true t = refl
or_swap true false t = refl
or_swap false s t = refl

or_swap_three : (x y z s t : Bool) → ((x || (y || (z || s))) || t) ≡ (s || (x || (y || (z || t))))
or_swap_three true y z true t = refl
or_swap_three true y z false t = refl
or_swap_three false true z true t = refl
or_swap_three false true z false t = refl
or_swap_three false false z s t = or_swap z s t

seen_has : (n : ℕ) (es : List Event) (seen : List ℕ) → has n (seen_after seen es) ≡ (has n seen || has n (named es))
seen_has n [] seen = none (has n seen)
  where
    none : (b : Bool) → b ≡ (b || false)
    none true = refl
    none false = refl
seen_has n (Vertex l m v ∷ es) seen = seen_has n es seen
seen_has n (Triangle l a b c ∷ es) seen =
    seen_has n es (a ∷ b ∷ c ∷ seen) ∙ or_swap_three (eqb n a) (eqb n b) (eqb n c) (has n seen) (has n (named es))
seen_has n (Finalization l i ∷ es) seen = seen_has n es seen

-- A vertex is handed over if some triangle names it: shown event by event.
abbrev pub NamedOnly : List Event → Type 0
NamedOnly es = (n : ℕ) → has n (handed_over es) ≡ has n (named es)

module _ (limit : ℕ) (es : List Event) (ok : Accepted (refusal limit) es) where
  pub moved_by : (e : Event) → refusal limit es e ≡ None
      → moved (es ++ (e ∷ [])) [] (es ++ (e ∷ [])) ≡ moved es [] es ++ moved (es ++ (e ∷ [])) (seen_after [] es) (e ∷ [])
  moved_by e h = moved_more limit es (e ∷ []) ok (h, tt)

  pub moved_v : (p n : ℕ) (v : Point) → refusal limit es (Vertex p n v) ≡ None
      → moved (es ++ (Vertex p n v ∷ [])) [] (es ++ (Vertex p n v ∷ [])) ≡ moved es [] es
  moved_v p n v h = moved_by (Vertex p n v) h ∙ append-nil (moved es [] es)

  pub handed_f : (p i : ℕ) → refusal limit es (Finalization p i) ≡ None → handed_over (es ++ (Finalization p i ∷ [])) ≡ handed_over es
  handed_f p i h =
      ap introduced (moved_by (Finalization p i) h) ∙ introduced-++ (moved es [] es) _
      ∙ ap (λ (z : List ℕ). handed_over es ++ z) (none (has i (named (es ++ (Finalization p i ∷ []))))) ∙ append-nil (handed_over es)
    where
      none : (b : Bool) → introduced (cond b (Finalization p i ∷ []) [] ++ []) ≡ []
      none true = refl
      none false = refl

  -- a triangle
  module _ (nm : NamedOnly es) (p a b c : ℕ) (h : refusal limit es (Triangle p a b c) ≡ None) where
    abbrev more : List Event
    more = es ++ (Triangle p a b c ∷ [])

    abbrev Alive : List ℕ → Type 0
    Alive us = (n : ℕ) → has n us ≡ true → is_live es n ≡ true

    pub corner_live : Alive (a ∷ b ∷ c ∷ [])
    corner_live = let t = triangle_ok limit es p a b c h in of_three (λ n. is_live es n ≡ true) a b c t.first t.second t.third

    firsts_live : Alive (firsts es a b c)
    firsts_live n k = corner_live n (unseen_within n (a ∷ b ∷ c ∷ []) (handed_over es) k)

    firsts_are : unseen (seen_after [] es) (a ∷ b ∷ c ∷ []) ≡ firsts es a b c
    firsts_are = unseen_same (a ∷ b ∷ c ∷ []) (seen_after [] es) (handed_over es) (λ n. seen_has n es [] ∙ sym (nm n))

    -- the vertices that move to before it
    abbrev pub vertices_of : List ℕ → List Event
    vertices_of us = flat_map (introduction more) us

    one_vertex : (n : ℕ) → is_live es n ≡ true → introduction more n ≡ under es (λ i. i) n ∷ []
    one_vertex n l =
        let i = live_introduced es n l in
        sym (same_vertex limit es (Triangle p a b c ∷ []) ok (h, tt) n i) ∙ introduction_is limit n es [] ok i

    vertices_introduced : (us : List ℕ) → Alive us → introduced (vertices_of us) ≡ us
    vertices_introduced [] l = refl
    vertices_introduced (n ∷ us) l =
        ap (λ (z : List Event). introduced (z ++ vertices_of us)) (one_vertex n (l n (has_self n us)))
        ∙ ap (λ (z : List ℕ). n ∷ z) (vertices_introduced us (λ m k. l m (or_right _ _ k)))

    vertices_renamed : (f : ℕ → ℕ) (us : List ℕ) → Alive us → map (renamed f) (vertices_of us) ≡ map (under es f) us
    vertices_renamed f [] l = refl
    vertices_renamed f (n ∷ us) l =
        ap (λ (z : List Event). map (renamed f) (z ++ vertices_of us)) (one_vertex n (l n (has_self n us)))
        ∙ ap (λ (z : List Event). under es f n ∷ z) (vertices_renamed f us (λ m k. l m (or_right _ _ k)))

    pub firsts_renamed : (f : ℕ → ℕ) → map (renamed f) (vertices_of (firsts es a b c)) ≡ map (under es f) (firsts es a b c)
    firsts_renamed f = vertices_renamed f (firsts es a b c) firsts_live

    -- what is moved for it
    abbrev pub firsts_and_triangle : List Event
    firsts_and_triangle = vertices_of (firsts es a b c) ++ (Triangle p a b c ∷ [])

    pub moved_t : moved (es ++ (Triangle p a b c ∷ [])) [] (es ++ (Triangle p a b c ∷ [])) ≡ moved es [] es ++ firsts_and_triangle
    moved_t =
        moved_by (Triangle p a b c) h
        ∙ ap (λ (us : List ℕ). moved es [] es ++ (vertices_of us ++ (Triangle p a b c ∷ []))) firsts_are

    pub introduced_firsts : introduced firsts_and_triangle ≡ firsts es a b c
    introduced_firsts =
        introduced-++ (vertices_of (firsts es a b c)) (Triangle p a b c ∷ []) ∙ append-nil (introduced (vertices_of (firsts es a b c)))
        ∙ vertices_introduced (firsts es a b c) firsts_live

    pub handed_t : handed_over (es ++ (Triangle p a b c ∷ [])) ≡ handed_over es ++ firsts es a b c
    handed_t =
        ap introduced moved_t ∙ introduced-++ (moved es [] es) firsts_and_triangle
        ∙ ap (λ (z : List ℕ). handed_over es ++ z) introduced_firsts

    pub has_t : (n : ℕ) → has n (handed_over es ++ firsts es a b c) ≡ (has n (handed_over es) || has n (a ∷ b ∷ c ∷ []))
    has_t n = has-++ n (handed_over es) (firsts es a b c) ∙ has_unseen n (a ∷ b ∷ c ∷ []) (handed_over es)

  named_step : (e : Event) → refusal limit es e ≡ None → NamedOnly es → NamedOnly (es ++ (e ∷ []))
  named_step (Vertex p m v) h nm n =
      ap (λ (z : List Event). has n (introduced z)) (moved_v p m v h) ∙ nm n ∙ sym (ap (has n) (named_v es p m v))
  named_step (Triangle p a b c) h nm n =
      ap (has n) (handed_t nm p a b c h) ∙ has_t nm p a b c h n ∙ ap (λ z. z || has n (a ∷ b ∷ c ∷ [])) (nm n)
      ∙ sym (ap (has n) (named_t es p a b c) ∙ has-++ n (named es) (a ∷ b ∷ c ∷ []))
  named_step (Finalization p i) h nm n = ap (has n) (handed_f p i h) ∙ nm n ∙ sym (ap (has n) (named_f es p i))

named_after : (limit : ℕ) (es before : List Event) → Accepted (refusal limit) before → AcceptedAfter (refusal limit) before es
    → NamedOnly before → NamedOnly (before ++ es)
named_after limit [] before ok h nm = subst NamedOnly (sym (append-nil before)) nm
named_after limit (e ∷ es) before ok (a, h) nm =
    subst NamedOnly (append_assoc before (e ∷ []) es)
    (named_after limit es (before ++ (e ∷ [])) (accepted_push (refusal limit) before [] e ok a) h (named_step limit before ok e a nm))

pub named_only : (limit : ℕ) (es : List Event) → Accepted (refusal limit) es → NamedOnly es
named_only limit es ok = named_after limit es [] tt ok (λ n. refl)

-- A new vertex is not yet handed over.
named_known : (n : ℕ) (all : List ℕ) (es : List Event) → All (Known all) es → has n (named es) ≡ true → has n all ≡ true
named_known n all [] k h = absurd (not_has_nil n h)
named_known n all (Vertex l m v ∷ es) (x, k) h = named_known n all es k h
named_known n all (Triangle l a b c ∷ es) (x, k) h =
    elim (or_cases (has n (a ∷ b ∷ c ∷ [])) _ (sym (has-++ n (a ∷ b ∷ c ∷ []) (named es)) ∙ h)) [
      | inl e ↦ of_three (λ m. has m all ≡ true) a b c x.0 x.1 x.2 n e
      | inr e ↦ named_known n all es k e
    ]
named_known n all (Finalization l i ∷ es) (x, k) h = named_known n all es k h

pub not_handed : (limit : ℕ) (es : List Event) (p n : ℕ) (v : Point) → Accepted (refusal limit) es → refusal limit es (Vertex p n v) ≡ None
    → has n (handed_over es) ≡ false
not_handed limit es p n v ok h = false_from_ne_true _ (λ k.
    both_ways (has n (introduced es)) (above_not_has n (introduced es) (vertex_ok limit es p n v h).above)
    (named_known n (introduced es) es (known_own limit es ok) (sym (named_only limit es ok n) ∙ k)))
