-- Renumber by what it keeps.
use Rattle.std.proofs.Common.{◌≡◌, ℕ, suc, ◌+◌, ◌≤◌, true, List, [], ◌∷◌, ◌++◌, length, None, sym, refl, ap, ◌∙◌, arith, length-append}
use Rattle.mesh_stream.specs.declared.event.Point.{Point}
use Rattle.mesh_stream.specs.declared.event.Event.{Event}
use Rattle.mesh_stream.specs.declared.event.Event.TheVariants.{Vertex, Triangle, Finalization}
use Rattle.mesh_stream.specs.Meaning.{Outcome}
use Rattle.mesh_stream.specs.Lists.{has}
use Rattle.mesh_stream.specs.Events.{introduced}
use Rattle.mesh_stream.specs.Live.{is_live}
use Rattle.mesh_stream.proofs.Having.{above_not_has}
use Rattle.mesh_stream.proofs.Views.{introduced-++, introduced_v, introduced_t, introduced_f}
use Rattle.mesh_judge.specs.Accepting.{refusal, Accepted}
use Rattle.mesh_judge.proofs.Refusing.{vertex_ok, triangle_ok, final_ok}
use Rattle.mesh_judge.proofs.Living.{live_introduced}
use Rattle.mesh_layer.specs.Machine.{run}
use Rattle.mesh_rules.specs.Rewriting.{renamed, position, renumbered}
use Rattle.mesh_rules.specs.Piling.{renumbers, name_of, through}
use Rattle.mesh_rules.proofs.Bounding.{bounded, few_introduced}
use Rattle.mesh_rules.proofs.Numbering.{count_before_new}
use Rattle.mesh_rules.proofs.Prefixes.{count_before_stays, renumbered_more}
use Rattle.mesh_windows.specs.Windowing.{blank}
use Rattle.mesh_windows.specs.Working.{next_number, note_of, number_by, renumber_hands, renumber_work, windowed}
use Rattle.mesh_windows.proofs.Recalling.{Recalls, held_at, Notes, unmarked_recalls}
use Rattle.mesh_windows.proofs.Rules.{Adds, gives_by_notes}
use Rattle.mesh_windows.proofs.Passing.{known_own}

pub position_stays : (xs ys : List ℕ) (n : ℕ) → has n xs ≡ true → position (xs ++ ys) n ≡ position xs n
position_stays xs ys n h = ap suc (count_before_stays xs ys n h)

pub triangle_same : (l a b c x y z : ℕ) → a ≡ x → b ≡ y → c ≡ z → Triangle l a b c ≡ Triangle l x y z
triangle_same l a b c x y z p q r = λ i. Triangle l (p i) (q i) (r i)

-- The numbers that are given stay below the bound.
pub next_is : (k : ℕ) → k ≤ 100000000 → next_number k ≡ suc k
next_is k l = omega arith

-- By the list: a vertex's new number, and how many were given.
abbrev new_number : List Event → ℕ → ℕ
new_number es n = position (introduced es) n

abbrev new_count : List Event → ℕ
new_count es = length (introduced es)

few : (limit : ℕ) (es : List Event) → Accepted (refusal limit) es → new_count es ≤ 100000000
few limit es ok = few_introduced limit es (bounded limit es ok)

new_number_stays : (es : List Event) (e : Event) (n : ℕ) → is_live es n ≡ true → new_number (es ++ (e ∷ [])) n ≡ new_number es n
new_number_stays es e n l =
    ap (λ (z : List ℕ). position z n) (introduced-++ es (e ∷ []))
    ∙ position_stays (introduced es) (introduced (e ∷ [])) n (live_introduced es n l)

number_given : (limit : ℕ) (es : List Event) (p n : ℕ) (v : Point) → Accepted (refusal limit) es → refusal limit es (Vertex p n v) ≡ None
    → position (introduced es ++ (n ∷ [])) n ≡ next_number (new_count es)
number_given limit es p n v ok h =
    ap suc (count_before_new (introduced es) [] n (above_not_has n (introduced es) (vertex_ok limit es p n v h).above))
    ∙ sym (next_is (new_count es) (few limit es ok))

renumber_notes : (limit : ℕ) → Notes limit renumber_work new_number new_count
renumber_notes limit = record {
  none = refl;
  new = λ es p n v ok h. ap (λ (z : List ℕ). position z n) (introduced_v es p n v) ∙ number_given limit es p n v ok h;
  old = λ es p n v ok h i l. new_number_stays es (Vertex p n v) i l;
  gives = λ es p n v ok h.
      ap length (introduced_v es p n v) ∙ length-append (introduced es) (n ∷ []) ∙ one_more (new_count es) (few limit es ok);
  marked = λ m es p a b c r h.
      unmarked_recalls limit new_number new_count m es p a b c r h (new_number_stays es (Triangle p a b c))
      (ap length (introduced_t es p a b c));
  left = λ es p i ok h n l. new_number_stays es (Finalization p i) n l;
  stays = λ es p i ok h. ap length (introduced_f es p i);
}
  where
    one_more : (k : ℕ) → k ≤ 100000000 → k + 1 ≡ next_number k
    one_more k l = omega arith

renumber_adds : (limit : ℕ) → Adds limit renumber_work renumbered (Recalls limit new_number new_count)
renumber_adds limit m es e r h =
    renumbered_more es (e ∷ []) (known_own limit es r.knows.accepted) ∙ ap (λ (z : List Event). renumbered es ++ z) (here e h)
  where
    at : (x : Event) (n : ℕ) → is_live es n ≡ true → position (introduced es ++ introduced (x ∷ [])) n ≡ number_by m.window n
    at x n l =
        position_stays (introduced es) (introduced (x ∷ [])) n (live_introduced es n l)
        ∙ sym (ap (note_of 0) (held_at limit new_number new_count m es r n l))

    here : (x : Event) → refusal limit es x ≡ None → renamed (position (introduced es ++ introduced (x ∷ []))) x ∷ [] ≡ renumber_hands m x
    here (Vertex l n v) k =
        ap (λ (z : ℕ). Vertex l z v ∷ []) (number_given limit es l n v r.knows.accepted k ∙ ap next_number (sym r.given))
    here (Triangle l a b c) k =
        let t = triangle_ok limit es l a b c k in
        let x = Triangle l a b c in
        ap (λ (z : Event). z ∷ []) (triangle_same l _ _ _ _ _ _ (at x a t.first) (at x b t.second) (at x c t.third))
    here (Finalization l i) k = ap (λ (z : ℕ). Finalization l z ∷ []) (at (Finalization l i) i (final_ok limit es l i k))

pub renumber_whole : (limit : ℕ) (o : Outcome Event) → run (windowed limit renumbers) blank o.items o.stands ≡ through limit renumbers o
renumber_whole limit =
    gives_by_notes limit (name_of renumbers) renumber_work renumbered new_number new_count (renumber_notes limit) refl (renumber_adds limit)
