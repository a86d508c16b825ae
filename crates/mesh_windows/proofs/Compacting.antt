-- Compact by what it keeps: a vertex is pending until a triangle names it.
use Rattle.std.proofs.Common.{◌≡◌, ℕ, Bool, true, false, cond, List, [], ◌∷◌, ◌++◌, map, length, Some, None, Option, sym, refl, ap, ◌∙◌, subst, append-nil}
use Rattle.std.specs.List.{AllByRecursion as All}
use Rattle.std.proofs.lemmas.Bool.{or_right}
use Rattle.std.proofs.lemmas.List.{map-append}
use Rattle.mesh_stream.specs.declared.event.Event.{Event}
use Rattle.mesh_stream.specs.declared.event.Event.TheVariants.{Vertex, Triangle, Finalization}
use Rattle.mesh_stream.specs.Lists.{has}
use Rattle.mesh_stream.specs.Events.{introduced}
use Rattle.mesh_stream.specs.Live.{is_live}
use Rattle.mesh_stream.specs.Meaning.{Outcome}
use Rattle.mesh_stream.proofs.Having.{has_self}
use Rattle.mesh_judge.specs.declared.live.Live.{Live}
use Rattle.mesh_judge.specs.Accepting.{refusal, Accepted}
use Rattle.mesh_judge.specs.Windows.{counted, origin, origin_by, origin_in, Knows}
use Rattle.mesh_judge.proofs.Refusing.{final_ok}
use Rattle.mesh_judge.proofs.Knowing.{accepted_push, knows_triangle}
use Rattle.mesh_layer.specs.Machine.{run}
use Rattle.mesh_rules.specs.Rewriting.{renamed, position, renumbered, named, moved, compacted}
use Rattle.mesh_rules.specs.Piling.{compacts, name_of, through}
use Rattle.mesh_rules.proofs.Having.{has_right}
use Rattle.mesh_rules.proofs.Views.{named_f}
use Rattle.mesh_rules.proofs.Compacting.{moved_loosely, few_moved}
use Rattle.mesh_rules.proofs.Naming.{Known, all_known}
use Rattle.mesh_rules.proofs.Prefixes.{renumbered_more}
use Rattle.mesh_windows.specs.Windowing.{Memory, remembers, blank}
use Rattle.mesh_windows.specs.Working.{note_of, mark_if, mark_all, brought_all, number_or, new_number, follows_if, with_new_corners, compact_hands, compact_work, windowed}
use Rattle.mesh_windows.proofs.Recalling.{Recalls, Notes, held_at, holds_at, noted_by, knows_as}
use Rattle.mesh_windows.proofs.Rules.{Adds, gives_by_notes}
use Rattle.mesh_windows.proofs.Renumbering.{position_stays, triangle_same}
use Rattle.mesh_windows.proofs.Handed.{handed_over, firsts, NamedOnly, named_only, not_handed, moved_by, moved_v, moved_t, handed_f, handed_t, has_t, corner_live, vertices_of, firsts_and_triangle, firsts_renamed, introduced_firsts}
use Rattle.mesh_windows.proofs.Corners.{note_by, Few, kept, live_one, Marked, marked_at, Walked, walk}

-- By the list: the number that compact gave a vertex, if it gave one, and how many it gave.
abbrev view : List Event → ℕ → Option ℕ
view es n = note_by (handed_over es) n

abbrev count : List Event → ℕ
count es = length (handed_over es)

moved_known : (limit : ℕ) (es : List Event) → Accepted (refusal limit) es → All (Known (handed_over es)) (moved es [] es)
moved_known limit es ok = all_known limit (moved es [] es) (moved_loosely limit es ok)

-- Marking corners changes notes only.

abbrev counts : Memory (Option ℕ) → ℕ × ℕ × ℕ
counts m = (m.window.live_count, m.window.highest, m.window.triangles)

mark_counts : (m : Memory (Option ℕ)) (n : ℕ) (o : Option (Live (Option ℕ))) → counts (mark_if m n o) ≡ counts m
mark_counts m n None = refl
mark_counts m n (Some v) = refl

mark_all_counts : (ns : List ℕ) (m : Memory (Option ℕ)) → counts (mark_all m ns) ≡ counts m
mark_all_counts [] m = refl
mark_all_counts (n ∷ ns) m = mark_all_counts ns _ ∙ mark_counts m n _

knows_marked : (limit : ℕ) (m : Memory (Option ℕ)) (ns : List ℕ) (es : List Event) → Knows limit m.window es
    → ((n : ℕ) → origin ((mark_all m ns).window.at n) ≡ origin (m.window.at n)) → Knows limit (mark_all m ns).window es
knows_marked limit m ns es k o =
    let e = mark_all_counts ns m in
    knows_as limit m.window (mark_all m ns).window es k o
    (ap (λ (z : ℕ × ℕ × ℕ). z.0) e) (ap (λ (z : ℕ × ℕ × ℕ). z.1) e) (ap (λ (z : ℕ × ℕ × ℕ). z.2) e)

origin_kept : (es : List Event) (xs : List ℕ) (n : ℕ) → origin (kept es xs n) ≡ origin_in es n
origin_kept es xs n = at (is_live es n)
  where
    at : (b : Bool) → origin (cond b (Some (live_one es xs n)) None) ≡ cond b (Some (origin_by es n)) None
    at true = refl
    at false = refl

module _ (limit : ℕ) (m : Memory (Option ℕ)) (es : List Event) (r : Recalls limit view count m es) where
  ok : Accepted (refusal limit) es
  ok = r.knows.accepted

  nm : NamedOnly es
  nm = named_only limit es ok

  -- A triangle.
  module _ (p a b c : ℕ) (h : refusal limit es (Triangle p a b c) ≡ None) where
    abbrev corners : List ℕ
    corners = a ∷ b ∷ c ∷ []

    -- the vertices that are handed over once it is
    abbrev handed : List ℕ
    handed = handed_over es ++ firsts es a b c

    handed_more : handed_over (es ++ (Triangle p a b c ∷ [])) ≡ handed
    handed_more = handed_t limit es ok nm p a b c h

    few : Few handed
    few =
        subst Few handed_more
        (few_moved limit (es ++ (Triangle p a b c ∷ [])) (accepted_push (refusal limit) es [] (Triangle p a b c) ok h))

    walked : (k : Memory (Option ℕ)) → Marked es k (handed_over es) → Walked es k (handed_over es) corners (firsts es a b c)
    walked k w = walk es corners (handed_over es) k (corner_live limit es ok nm p a b c h) few w

    walked_here : Walked es m (handed_over es) corners (firsts es a b c)
    walked_here = walked m (record { at = holds_at limit view count m es r; given = r.given })

    -- the memory that counted it, to be marked
    abbrev next : Memory (Option ℕ)
    next = remembers (counted m.window) m.given

    walked_next : Walked es next (handed_over es) corners (firsts es a b c)
    walked_next = walked next (record { at = holds_at limit view count m es r; given = r.given })

    same_origin : (n : ℕ) → origin ((mark_all next corners).window.at n) ≡ origin (m.window.at n)
    same_origin n =
        ap origin (walked_next.marked.at n) ∙ origin_kept es handed n
        ∙ sym (ap origin (holds_at limit view count m es r n) ∙ origin_kept es (handed_over es) n)

    recalls_marked : Recalls limit view count (mark_all next corners) (es ++ (Triangle p a b c ∷ []))
    recalls_marked = record {
      knows =
          knows_marked limit next corners (es ++ (Triangle p a b c ∷ [])) (knows_triangle limit m.window es r.knows p a b c h) same_origin;
      noted = λ n x e.
          noted_by (λ z. note_by handed) (mark_all next corners).window es walked_next.marked.at n x e
          ∙ ap (λ (z : List ℕ). note_by z n) (sym handed_more);
      given = walked_next.marked.given ∙ sym (ap length handed_more);
    }

    note_corner : (n : ℕ) → has n corners ≡ true → note_of None ((mark_all m corners).window.at n) ≡ Some (position handed n)
    note_corner n q =
        let alive = corner_live limit es ok nm p a b c h n q in
        ap (note_of None) (marked_at es (mark_all m corners) handed walked_here.marked n alive)
        ∙ ap (λ b. cond b (Some (position handed n)) None) (has_t limit es ok nm p a b c h n ∙ or_right (has n (handed_over es)) _ q)

    marked_corner : (n : ℕ) → has n corners ≡ true → position handed n ≡ new_number (mark_all m corners) n
    marked_corner n q = sym (ap (number_or 0) (note_corner n q))

    new_corners : renamed (position handed) (Triangle p a b c) ∷ [] ≡ with_new_corners p a b c (mark_all m corners)
    new_corners =
        ap (λ (z : Event). z ∷ []) (triangle_same p _ _ _ _ _ _ (marked_corner a (has_self a (b ∷ c ∷ [])))
        (marked_corner b (has_right b (a ∷ []) (b ∷ c ∷ []) (has_self b (c ∷ []))))
        (marked_corner c (has_right c (a ∷ b ∷ []) (c ∷ []) (has_self c []))))

    hands_triangle : map (renamed (position handed)) (firsts_and_triangle limit es ok nm p a b c h) ≡ compact_hands m (Triangle p a b c)
    hands_triangle =
        map-append (renamed (position handed)) (vertices_of limit es ok nm p a b c h (firsts es a b c)) (Triangle p a b c ∷ [])
        ∙ ap (λ (z : List Event). z ++ (renamed (position handed) (Triangle p a b c) ∷ []))
        (firsts_renamed limit es ok nm p a b c h (position handed) ∙ sym walked_here.brings)
        ∙ ap (λ (z : List Event). brought_all m corners ++ z) new_corners

    adds_triangle : compacted (es ++ (Triangle p a b c ∷ [])) ≡ compacted es ++ compact_hands m (Triangle p a b c)
    adds_triangle =
        ap renumbered (moved_t limit es ok nm p a b c h)
        ∙ renumbered_more (moved es [] es) (firsts_and_triangle limit es ok nm p a b c h) (moved_known limit es ok)
        ∙ ap (λ (z : List ℕ). compacted es ++ map (renamed (position (handed_over es ++ z))) (firsts_and_triangle limit es ok nm p a b c h))
        (introduced_firsts limit es ok nm p a b c h)
        ∙ ap (λ (z : List Event). compacted es ++ z) hands_triangle

  -- A finalization follows if its vertex was handed over.
  module _ (p i : ℕ) (h : refusal limit es (Finalization p i) ≡ None) where
    abbrev follows : Bool → List Event
    follows b = cond b (Finalization p i ∷ []) [] ++ []

    -- by whether a triangle names it
    abbrev added : Bool → List Event
    added b = map (renamed (position (handed_over es ++ introduced (follows b)))) (follows b)

    added_by : (b : Bool) → has i (handed_over es) ≡ b → added b ≡ follows_if p (cond b (Some (position (handed_over es) i)) None)
    added_by true q = ap (λ (z : ℕ). Finalization p z ∷ []) (position_stays (handed_over es) [] i q)
    added_by false q = refl

    is_named : has i (named (es ++ (Finalization p i ∷ []))) ≡ has i (handed_over es)
    is_named = ap (has i) (named_f es p i) ∙ sym (nm i)

    noted_i : note_of None (m.window.at i) ≡ view es i
    noted_i = ap (note_of None) (held_at limit view count m es r i (final_ok limit es p i h))

    adds_final : compacted (es ++ (Finalization p i ∷ [])) ≡ compacted es ++ compact_hands m (Finalization p i)
    adds_final =
        ap renumbered (moved_by limit es ok (Finalization p i) h)
        ∙ renumbered_more (moved es [] es) (follows (has i (named (es ++ (Finalization p i ∷ []))))) (moved_known limit es ok)
        ∙ ap (λ (z : List Event). compacted es ++ z)
        (ap added is_named ∙ added_by (has i (handed_over es)) refl ∙ sym (ap (follows_if p) noted_i))

compact_adds : (limit : ℕ) → Adds limit compact_work compacted (Recalls limit view count)
compact_adds limit m es (Vertex p n v) r h = ap renumbered (moved_v limit es r.knows.accepted p n v h) ∙ sym (append-nil (compacted es))
compact_adds limit m es (Triangle p a b c) r h = adds_triangle limit m es r p a b c h
compact_adds limit m es (Finalization p i) r h = adds_final limit m es r p i h

compact_notes : (limit : ℕ) → Notes limit compact_work view count
compact_notes limit = record {
  none = refl;
  new = λ es p n v ok h.
      ap (λ (z : List Event). note_by (introduced z) n) (moved_v limit es ok p n v h)
      ∙ ap (λ b. cond b (Some (position (handed_over es) n)) None) (not_handed limit es p n v ok h);
  old = λ es p n v ok h i l. ap (λ (z : List Event). note_by (introduced z) i) (moved_v limit es ok p n v h);
  gives = λ es p n v ok h. ap (λ (z : List Event). length (introduced z)) (moved_v limit es ok p n v h);
  marked = λ m es p a b c r h. recalls_marked limit m es r p a b c h;
  left = λ es p i ok h n l. ap (λ (z : List ℕ). note_by z n) (handed_f limit es ok p i h);
  stays = λ es p i ok h. ap length (handed_f limit es ok p i h);
}

pub compact_whole : (limit : ℕ) (o : Outcome Event) → run (windowed limit compacts) blank o.items o.stands ≡ through limit compacts o
compact_whole limit =
    gives_by_notes limit (name_of compacts) compact_work compacted view count (compact_notes limit) refl (compact_adds limit)
