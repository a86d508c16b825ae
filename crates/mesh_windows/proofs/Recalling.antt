-- A memory that recalls a list of accepted events: it knows the list, and has what the layer notes of it.
use Rattle.std.proofs.Common.{◌≡◌, ℕ, Bool, true, false, cond, eqb, List, [], ◌∷◌, ◌++◌, Some, None, Option, sym, refl, ap, ◌∙◌}
use Rattle.std.proofs.lemmas.Option.{none-some}
use Rattle.std.proofs.lemmas.Bool.{eqb-true}
use Rattle.mesh_stream.specs.declared.event.Point.{Point}
use Rattle.mesh_stream.specs.declared.event.Event.{Event}
use Rattle.mesh_stream.specs.declared.event.Event.TheVariants.{Vertex, Triangle, Finalization}
use Rattle.mesh_stream.specs.Events.{point, birthplace}
use Rattle.mesh_stream.specs.Live.{is_live}
use Rattle.mesh_judge.specs.declared.live.Live.{Live}
use Rattle.mesh_judge.specs.Accepting.{refusal, Accepted}
use Rattle.mesh_judge.specs.Windows.{Window, counted, origin, origin_by, Knows}
use Rattle.mesh_judge.proofs.Knowing.{at_live, knows_vertex, knows_triangle, knows_final, knows_none}
use Rattle.mesh_windows.specs.Windowing.{Memory, remembers, blank, Work, moves_on}

-- By the list: what is noted of a live number, and how many new numbers were given.
pub record Recalls {T : Type 0} (limit : ℕ) (view : List Event → ℕ → T) (count : List Event → ℕ) (m : Memory T) (es : List Event)
    : Type 0 where
  pub knows : Knows limit m.window es
  pub noted : (n : ℕ) (x : Live T) → m.window.at n ≡ Some x → x.note ≡ view es n
  pub given : m.given ≡ count es

-- What is at a number, by the list.
abbrev pub living : {T : Type 0} → (List Event → ℕ → T) → List Event → ℕ → Live T
living view es n = record { place = birthplace es n; at = point es n; note = view es n }

abbrev pub holds : {T : Type 0} → (List Event → ℕ → T) → List Event → ℕ → Option (Live T)
holds view es n = cond (is_live es n) (Some (living view es n)) None

pub lives_same : {T : Type 0} (x y : Live T) → x.place ≡ y.place → x.at ≡ y.at → x.note ≡ y.note → x ≡ y
lives_same {T} x y a b c = λ i. record { place = a i; at = b i; note = c i }

nothing_at : {T : Type 0} (o : Option (Live T)) → origin o ≡ None → o ≡ None
nothing_at None e = refl
nothing_at (Some v) e = absurd (none-some _ (sym e))

-- The window has something exactly at the live numbers.
module _ {T : Type 0} (limit : ℕ) (w : Window T) (es : List Event) (k : Knows limit w es) where
  pub at_other : (n : ℕ) → is_live es n ≡ false → w.at n ≡ None
  at_other n l = nothing_at (w.at n) (k.at n ∙ ap (λ b. cond b (Some (origin_by es n)) None) l)

  pub live_from : (n : ℕ) (x : Live T) → w.at n ≡ Some x → is_live es n ≡ true
  live_from n x e = at (is_live es n) refl
    where
      at : (b : Bool) → is_live es n ≡ b → b ≡ true
      at true l = refl
      at false l = absurd (none-some x (sym (at_other n l) ∙ e))

module _ {T : Type 0} (limit : ℕ) (view : List Event → ℕ → T) (count : List Event → ℕ) (m : Memory T) (es : List Event)
    (r : Recalls limit view count m es) where
  pub held_at : (n : ℕ) → is_live es n ≡ true → m.window.at n ≡ Some (living view es n)
  held_at n l =
      let x = at_live limit m.window es r.knows n l in
      x.1 ∙ ap (λ (z : Live T). Some z) (lives_same x.0 (living view es n) x.2 x.3 (r.noted n x.0 x.1))

  pub holds_at : (n : ℕ) → m.window.at n ≡ holds view es n
  holds_at n = at (is_live es n) refl
    where
      at : (b : Bool) → is_live es n ≡ b → m.window.at n ≡ cond b (Some (living view es n)) None
      at true l = held_at n l
      at false l = at_other limit m.window es r.knows n l

-- and the other way
pub noted_by : {T : Type 0} (view : List Event → ℕ → T) (w : Window T) (es : List Event) → ((n : ℕ) → w.at n ≡ holds view es n)
    → (n : ℕ) (x : Live T) → w.at n ≡ Some x → x.note ≡ view es n
noted_by {T} view w es h n x e = at (is_live es n) (sym e ∙ h n)
  where
    inside : {y z : Live T} → Some y ≡ Some z → y ≡ z
    inside q = cc

    at : (b : Bool) → Some x ≡ cond b (Some (living view es n)) None → x.note ≡ view es n
    at true q = ap (λ (z : Live T). z.note) (inside q)
    at false q = absurd (none-some x (sym q))

-- A window with other notes knows the same list.
pub knows_as : {T : Type 0} (limit : ℕ) (w u : Window T) (es : List Event) → Knows limit w es
    → ((n : ℕ) → origin (u.at n) ≡ origin (w.at n))
    → u.live_count ≡ w.live_count → u.highest ≡ w.highest → u.triangles ≡ w.triangles → Knows limit u es
knows_as limit w u es k a c h t = record {
  accepted = k.accepted;
  at = λ n. a n ∙ k.at n;
  live_count = c ∙ k.live_count;
  highest = h ∙ k.highest;
  triangles = t ∙ k.triangles;
}

-- What a layer shows of its notes: they are right after a vertex, after a triangle and after a finalization.
pub record Notes {T : Type 0} (limit : ℕ) (work : Work T) (view : List Event → ℕ → T) (count : List Event → ℕ) : Type 0 where
  pub none : count [] ≡ 0
  pub new : (es : List Event) (p n : ℕ) (v : Point) → Accepted (refusal limit) es → refusal limit es (Vertex p n v) ≡ None
      → view (es ++ (Vertex p n v ∷ [])) n ≡ work.notes (count es) v
  pub old : (es : List Event) (p n : ℕ) (v : Point) → Accepted (refusal limit) es → refusal limit es (Vertex p n v) ≡ None
      → (i : ℕ) → is_live es i ≡ true → view (es ++ (Vertex p n v ∷ [])) i ≡ view es i
  pub gives : (es : List Event) (p n : ℕ) (v : Point) → Accepted (refusal limit) es → refusal limit es (Vertex p n v) ≡ None
      → count (es ++ (Vertex p n v ∷ [])) ≡ work.gives (count es)
  pub marked : (m : Memory T) (es : List Event) (p a b c : ℕ) → Recalls limit view count m es → refusal limit es (Triangle p a b c) ≡ None
      → Recalls limit view count (work.marks (remembers (counted m.window) m.given) a b c) (es ++ (Triangle p a b c ∷ []))
  pub left : (es : List Event) (p i : ℕ) → Accepted (refusal limit) es → refusal limit es (Finalization p i) ≡ None
      → (n : ℕ) → is_live es n ≡ true → view (es ++ (Finalization p i ∷ [])) n ≡ view es n
  pub stays : (es : List Event) (p i : ℕ) → Accepted (refusal limit) es → refusal limit es (Finalization p i) ≡ None
      → count (es ++ (Finalization p i ∷ [])) ≡ count es

module _ {T : Type 0} (limit : ℕ) (work : Work T) (view : List Event → ℕ → T) (count : List Event → ℕ)
    (f : Notes limit work view count) where
  pub recalls_none : Recalls limit view count blank []
  recalls_none = record { knows = knows_none limit; noted = λ n x e. absurd (none-some x e); given = sym f.none }

  pub recalls_more : (m : Memory T) (es : List Event) (e : Event) → Recalls limit view count m es → refusal limit es e ≡ None
      → Recalls limit view count (moves_on work m e) (es ++ (e ∷ []))
  recalls_more m es (Vertex p n v) r h = record {
    knows = knows_vertex limit m.window es r.knows n new h;
    noted = λ i x. noted i x (eqb i n) refl;
    given = ap work.gives r.given ∙ sym (f.gives es p n v r.knows.accepted h);
  }
    where
      new : Live T
      new = record { place = p; at = v; note = work.notes m.given v }

      inside : {y z : Live T} → Some y ≡ Some z → y ≡ z
      inside q = cc

      noted : (i : ℕ) (x : Live T) (b : Bool) → eqb i n ≡ b → cond b (Some new) (m.window.at i) ≡ Some x
          → x.note ≡ view (es ++ (Vertex p n v ∷ [])) i
      noted i x true q e =
          ap (λ (z : Live T). z.note) (sym (inside e)) ∙ ap (λ (k : ℕ). work.notes k v) r.given
          ∙ sym (f.new es p n v r.knows.accepted h) ∙ ap (view (es ++ (Vertex p n v ∷ []))) (sym (eqb-true i n q))
      noted i x false q e = r.noted i x e ∙ sym (f.old es p n v r.knows.accepted h i (live_from limit m.window es r.knows i x e))
  recalls_more m es (Triangle p a b c) r h = f.marked m es p a b c r h
  recalls_more m es (Finalization p i) r h = record {
    knows = knows_final limit m.window es r.knows p i h;
    noted = λ n x. noted n x (eqb n i);
    given = r.given ∙ sym (f.stays es p i r.knows.accepted h);
  }
    where
      noted : (n : ℕ) (x : Live T) (b : Bool) → cond b None (m.window.at n) ≡ Some x → x.note ≡ view (es ++ (Finalization p i ∷ [])) n
      noted n x true e = absurd (none-some x e)
      noted n x false e = r.noted n x e ∙ sym (f.left es p i r.knows.accepted h n (live_from limit m.window es r.knows n x e))

-- Most layers mark nothing: it is enough that their notes stay.
pub unmarked_recalls : {T : Type 0} (limit : ℕ) (view : List Event → ℕ → T) (count : List Event → ℕ) (m : Memory T) (es : List Event)
    (p a b c : ℕ) → Recalls limit view count m es → refusal limit es (Triangle p a b c) ≡ None
    → ((n : ℕ) → is_live es n ≡ true → view (es ++ (Triangle p a b c ∷ [])) n ≡ view es n)
    → count (es ++ (Triangle p a b c ∷ [])) ≡ count es
    → Recalls limit view count (remembers (counted m.window) m.given) (es ++ (Triangle p a b c ∷ []))
unmarked_recalls limit view count m es p a b c r h same stays = record {
  knows = knows_triangle limit m.window es r.knows p a b c h;
  noted = λ n x e. r.noted n x e ∙ sym (same n (live_from limit m.window es r.knows n x e));
  given = r.given ∙ sym stays;
}
