-- Check, clean and clip by what they keep.
use Rattle.std.proofs.Common.{◌≡◌, ℕ, Bool, true, false, not, ◌&&◌, List, [], ◌∷◌, ◌++◌, None, filter, sym, refl, ap, ◌∙◌}
use Rattle.std.specs.List.{AllByRecursion as All}
use Rattle.std.proofs.lemmas.List.Elements.{filter-append}
use Rattle.mesh_stream.specs.declared.event.Point.{Point}
use Rattle.mesh_stream.specs.declared.event.Event.{Event}
use Rattle.mesh_stream.specs.declared.event.Event.TheVariants.{Vertex, Triangle, Finalization}
use Rattle.mesh_stream.specs.Meaning.{Outcome}
use Rattle.mesh_stream.specs.Lists.{has}
use Rattle.mesh_stream.specs.Events.{introduced, point}
use Rattle.mesh_stream.specs.Live.{is_live}
use Rattle.mesh_stream.proofs.Having.{above_not_has}
use Rattle.mesh_judge.specs.Accepting.{refusal, Accepted}
use Rattle.mesh_judge.proofs.Refusing.{vertex_ok, triangle_ok, final_ok}
use Rattle.mesh_judge.proofs.Living.{live_introduced}
use Rattle.mesh_judge.proofs.Knowing.{point_stays}
use Rattle.mesh_layer.specs.Machine.{run}
use Rattle.mesh_rules.specs.Degenerate.{degenerate}
use Rattle.mesh_rules.specs.Rewriting.{is_sound, cleaned, names_kept, clipped}
use Rattle.mesh_rules.specs.Piling.{checks, cleans, clips, name_of, through}
use Rattle.mesh_rules.proofs.Numbering.{loosely}
use Rattle.mesh_rules.proofs.Naming.{Known, all_known, filter_agree_on}
use Rattle.mesh_rules.proofs.Faithful.{point_new}
use Rattle.mesh_windows.specs.Windowing.{Memory, blank}
use Rattle.mesh_windows.specs.Working.{unmarked, no_more, only_if, point_of, note_of, check_work, clean_work, inside_by, clip_hands, clip_work, windowed}
use Rattle.mesh_windows.proofs.Recalling.{Recalls, held_at, Notes, unmarked_recalls}
use Rattle.mesh_windows.proofs.Rules.{Adds, gives_by_notes}

abbrev pub given_none : List Event → ℕ
given_none es = 0

pub known_own : (limit : ℕ) (es : List Event) → Accepted (refusal limit) es → All (Known (introduced es)) es
known_own limit es ok = all_known limit es (loosely limit es ok)

-- Layers that note nothing.
abbrev noted_none : List Event → ℕ → Unit {0}
noted_none es n = tt

plain_notes : (limit : ℕ) (hands : Memory (Unit {0}) → Event → List Event)
    → Notes limit (record { notes = λ k v. tt; gives = no_more; marks = unmarked; hands = hands }) noted_none given_none
plain_notes limit hands = record {
  none = refl;
  new = λ es p n v ok h. refl;
  old = λ es p n v ok h i l. refl;
  gives = λ es p n v ok h. refl;
  marked = λ m es p a b c r h. unmarked_recalls limit noted_none given_none m es p a b c r h (λ n l. refl) refl;
  left = λ es p i ok h n l. refl;
  stays = λ es p i ok h. refl;
}

pub check_whole : (limit : ℕ) (o : Outcome Event) → run (windowed limit checks) blank o.items o.stands ≡ through limit checks o
check_whole limit =
    gives_by_notes limit (name_of checks) check_work (λ es. es) noted_none given_none (plain_notes limit (λ m e. e ∷ [])) refl
    (λ m es e r h. refl)

-- What is filtered by a test that says the same of what is there already grows by the new event, if it passes.
filtered_more : (P : Event → Type 0) (p q : Event → Bool) → ((x : Event) → P x → p x ≡ q x) → (es : List Event) (e : Event) → All P es
    → filter q (es ++ (e ∷ [])) ≡ filter p es ++ only_if (q e) e
filtered_more P p q h es e k =
    filter-append q es (e ∷ []) ∙ ap (λ (z : List Event). z ++ only_if (q e) e) (sym (filter_agree_on P p q h es k))

-- Clean

sound_same : (f g : ℕ → Point) (a b c : ℕ) → f a ≡ g a → f b ≡ g b → f c ≡ g c
    → not (degenerate (f a) (f b) (f c)) ≡ not (degenerate (g a) (g b) (g c))
sound_same f g a b c p q r = λ i. not (degenerate (p i) (q i) (r i))

clean_adds : (limit : ℕ) → Adds limit clean_work cleaned (Recalls limit noted_none given_none)
clean_adds limit m es e r h =
    filtered_more (Known (introduced es)) (is_sound (point es)) (is_sound (point (es ++ (e ∷ [])))) before es e
    (known_own limit es r.knows.accepted)
    ∙ ap (λ b. cleaned es ++ only_if b e) (here e h)
  where
    stays : (x : Event) (n : ℕ) → has n (introduced es) ≡ true → point (es ++ (x ∷ [])) n ≡ point es n
    stays x n k = point_stays es (x ∷ []) n k

    before : (x : Event) → Known (introduced es) x → is_sound (point es) x ≡ is_sound (point (es ++ (e ∷ []))) x
    before (Vertex l n v) k = refl
    before (Triangle l a b c) k =
        sound_same (point es) (point (es ++ (e ∷ []))) a b c (sym (stays e a k.0)) (sym (stays e b k.1)) (sym (stays e c k.2))
    before (Finalization l i) k = refl

    at : (x : Event) (n : ℕ) → is_live es n ≡ true → point (es ++ (x ∷ [])) n ≡ point_of (m.window.at n)
    at x n l = stays x n (live_introduced es n l) ∙ sym (ap point_of (held_at limit noted_none given_none m es r n l))

    here : (x : Event) → refusal limit es x ≡ None → is_sound (point (es ++ (x ∷ []))) x ≡ is_sound (λ n. point_of (m.window.at n)) x
    here (Vertex l n v) k = refl
    here (Triangle l a b c) k =
        let t = triangle_ok limit es l a b c k in
        let x = Triangle l a b c in
        sound_same (point (es ++ (Triangle l a b c ∷ []))) (λ n. point_of (m.window.at n)) a b c
        (at x a t.first) (at x b t.second) (at x c t.third)
    here (Finalization l i) k = refl

pub clean_whole : (limit : ℕ) (o : Outcome Event) → run (windowed limit cleans) blank o.items o.stands ≡ through limit cleans o
clean_whole limit =
    gives_by_notes limit (name_of cleans) clean_work cleaned noted_none given_none (plain_notes limit (clean_work.hands)) refl
    (clean_adds limit)

-- Clip

three_same : (x y z u v w : Bool) → x ≡ u → y ≡ v → z ≡ w → (x && y && z) ≡ (u && v && w)
three_same x y z u v w p q r = λ i. p i && q i && r i

module _ (inside : Point → Bool) where
  abbrev is_inside : List Event → ℕ → Bool
  is_inside es n = inside (point es n)

  inside_stays : (es : List Event) (e : Event) (n : ℕ) → is_live es n ≡ true → is_inside (es ++ (e ∷ [])) n ≡ is_inside es n
  inside_stays es e n l = ap inside (point_stays es (e ∷ []) n (live_introduced es n l))

  inside_new : (limit : ℕ) (es : List Event) (p n : ℕ) (v : Point) → refusal limit es (Vertex p n v) ≡ None
      → is_inside (es ++ (Vertex p n v ∷ [])) n ≡ inside v
  inside_new limit es p n v h = ap inside (point_new es [] p n v (above_not_has n (introduced es) (vertex_ok limit es p n v h).above))

  clip_notes : (limit : ℕ) → Notes limit (clip_work inside) is_inside given_none
  clip_notes limit = record {
    none = refl;
    new = λ es p n v ok h. inside_new limit es p n v h;
    old = λ es p n v ok h i l. inside_stays es (Vertex p n v) i l;
    gives = λ es p n v ok h. refl;
    marked = λ m es p a b c r h. unmarked_recalls limit is_inside given_none m es p a b c r h (inside_stays es (Triangle p a b c)) refl;
    left = λ es p i ok h n l. inside_stays es (Finalization p i) n l;
    stays = λ es p i ok h. refl;
  }

  clip_adds : (limit : ℕ) → Adds limit (clip_work inside) (clipped inside) (Recalls limit is_inside given_none)
  clip_adds limit m es e r h =
      filtered_more (Known (introduced es)) (names_kept (is_inside es)) (names_kept (is_inside (es ++ (e ∷ [])))) before es e
      (known_own limit es r.knows.accepted)
      ∙ ap (λ (z : List Event). clipped inside es ++ z) (here e h)
    where
      one : (n : ℕ) → has n (introduced es) ≡ true → is_inside es n ≡ is_inside (es ++ (e ∷ [])) n
      one n k = ap inside (sym (point_stays es (e ∷ []) n k))

      before : (x : Event) → Known (introduced es) x → names_kept (is_inside es) x ≡ names_kept (is_inside (es ++ (e ∷ []))) x
      before (Vertex l n v) k = one n k
      before (Triangle l a b c) k = three_same _ _ _ _ _ _ (one a k.0) (one b k.1) (one c k.2)
      before (Finalization l i) k = one i k

      at : (x : Event) (n : ℕ) → is_live es n ≡ true → is_inside (es ++ (x ∷ [])) n ≡ inside_by m.window n
      at x n l = inside_stays es x n l ∙ sym (ap (note_of false) (held_at limit is_inside given_none m es r n l))

      here : (x : Event) → refusal limit es x ≡ None → only_if (names_kept (is_inside (es ++ (x ∷ []))) x) x ≡ clip_hands inside m x
      here (Vertex l n v) k = ap (λ b. only_if b (Vertex l n v)) (inside_new limit es l n v k)
      here (Triangle l a b c) k =
          let t = triangle_ok limit es l a b c k in
          let x = Triangle l a b c in
          ap (λ z. only_if z (Triangle l a b c)) (three_same _ _ _ _ _ _ (at x a t.first) (at x b t.second) (at x c t.third))
      here (Finalization l i) k = ap (λ b. only_if b (Finalization l i)) (at (Finalization l i) i (final_ok limit es l i k))

  pub clip_whole : (limit : ℕ) (o : Outcome Event)
      → run (windowed limit (clips inside)) blank o.items o.stands ≡ through limit (clips inside) o
  clip_whole limit =
      gives_by_notes limit (name_of (clips inside)) (clip_work inside) (clipped inside) is_inside given_none (clip_notes limit) refl
      (clip_adds limit)
