-- A triangle's corners, marked one after the other.
use Rattle.std.proofs.Common.{◌≡◌, ℕ, Bool, true, false, cond, eqb, List, [], ◌∷◌, ◌++◌, is_some, Some, None, Option, sym, refl, ap, ◌∙◌}
use Rattle.std.proofs.lemmas.Option.{none-some}
use Rattle.std.proofs.lemmas.Bool.{eqb-true, eq-eqb}
use Rattle.mesh_stream.specs.declared.event.Event.{Event}
use Rattle.mesh_stream.specs.declared.event.Event.TheVariants.{Vertex, Triangle}
use Rattle.mesh_judge.specs.declared.live.Live.{Live}
use Rattle.mesh_judge.specs.declared.live.Corners.{Corners}
use Rattle.mesh_judge.specs.declared.judge.Judge.{Judge}
use Rattle.mesh_judge.specs.Windows.{Window, counted, renoted, renotes}
use Rattle.mesh_judge.specs.Judging.{window_of, Cornered, Renoted}
use Rattle.mesh_windows.specs.Windowing.{Memory, remembers}
use Rattle.mesh_windows.specs.Working.{next_number, if_unnumbered, pending, note_of, mark, mark_if, mark_all, brought, brought_if, brought_all, number_or, new_number, compact_hands}
use Rattle.mesh_filters.specs.declared.compact.number.Numbered.{Numbered}
use Rattle.mesh_filters.specs.Handing.{events_of}
use Rattle.mesh_filters.specs.Compacting.{listed, StillNoted, Marked}

-- compact's memory, its window, and what it keeps of a vertex
abbrev Mem : Type 0
Mem = Memory (Option ℕ)

abbrev Win : Type 0
Win = Window (Option ℕ)

abbrev Kept : Type 0
Kept = Live (Option ℕ)

-- A vertex that is pending gets the next number.

is_pending : (o : Option Kept) (v : Kept) → o ≡ Some v → v.note ≡ None → pending o ≡ Some v
is_pending o v e n = ap pending e ∙ ap (if_unnumbered v) n

pub brings : (j k : Judge (Option ℕ)) (given n x : ℕ) (v : Kept) (r : Bool)
    → (window_of j).at n ≡ Some v → v.note ≡ None → x ≡ next_number given → Renoted j n (Some x) r k
    → Marked (remembers (window_of j) given) n (record { number = x; brought = Some (Vertex v.place x v.at) }) (remembers (window_of k) x)
brings j k given n x v r e f g h = record {
  memory =
      ap (λ (u : Win). remembers u x) same
      ∙ ap (λ (z : ℕ). remembers (renoted (window_of j) n v (Some z)) z) g ∙ ap (mark_if m n) (sym p);
  brings = ap (λ (z : ℕ). Vertex v.place z v.at ∷ []) g ∙ ap (brought_if m) (sym p);
  number =
      ap (λ (u : Win). note_of None (u.at n)) same
      ∙ ap (λ b. note_of None (cond b (Some renewed) ((window_of j).at n))) (eq-eqb n n refl);
}
  where
    m : Mem
    m = remembers (window_of j) given

    renewed : Kept
    renewed = record { place = v.place; at = v.at; note = Some x }

    p : pending ((window_of j).at n) ≡ Some v
    p = is_pending ((window_of j).at n) v e f

    same : window_of k ≡ renoted (window_of j) n v (Some x)
    same = h.window ∙ ap (renotes (window_of j) n (Some x)) e

-- What is noted stays, whatever is marked.

unnumbered : (o : Option Kept) (v : Kept) → pending o ≡ Some v → note_of None o ≡ None
unnumbered None v e = refl
unnumbered (Some x) v e = at x.note e
  where
    at : (q : Option ℕ) → if_unnumbered x q ≡ Some v → q ≡ None
    at None e = refl
    at (Some k) e = absurd (none-some v e)

module _ (m : Mem) (n i : ℕ) where
  marked_live : is_some (m.window.at n) ≡ true → is_some ((mark m i).window.at n) ≡ true
  marked_live h = at (pending (m.window.at i))
    where
      by : (v : Kept) (b : Bool) → is_some (cond b (Some v) (m.window.at n)) ≡ true
      by v true = refl
      by v false = h

      at : (o : Option Kept) → is_some ((mark_if m i o).window.at n) ≡ true
      at None = h
      at (Some v) = by _ (eqb n i)

  marked_noted : (k : ℕ) → note_of None (m.window.at n) ≡ Some k → note_of None ((mark m i).window.at n) ≡ Some k
  marked_noted k h = at (pending (m.window.at i)) refl
    where
      by : (v u : Kept) → pending (m.window.at i) ≡ Some v → (b : Bool) → eqb n i ≡ b
          → note_of None (cond b (Some u) (m.window.at n)) ≡ Some k
      by v u e true q =
          absurd (none-some k (sym (ap (λ (z : ℕ). note_of None (m.window.at z)) (eqb-true n i q) ∙ unnumbered (m.window.at i) v e) ∙ h))
      by v u e false q = h

      at : (o : Option Kept) → pending (m.window.at i) ≡ o → note_of None ((mark_if m i o).window.at n) ≡ Some k
      at None e = h
      at (Some v) e = by v _ e (eqb n i) refl

  still_noted : (u : Mem) (o : Option ℕ) → u ≡ mark m i → StillNoted m n o → StillNoted u n o
  still_noted u None e h = ap (λ (z : Mem). is_some (z.window.at n)) e ∙ marked_live h
  still_noted u (Some k) e h = ap (λ (z : Mem). note_of None (z.window.at n)) e ∙ marked_noted k h

first_noted : (w u : Win) (given n : ℕ) (x : Kept) → u ≡ counted w → w.at n ≡ Some x
    → StillNoted (remembers u given) n x.note
first_noted w u given n x e h = at x.note refl
  where
    here : u.at n ≡ Some x
    here = ap (λ (z : Win). z.at n) e ∙ h

    at : (o : Option ℕ) → x.note ≡ o → StillNoted (remembers u given) n o
    at None q = ap is_some here
    at (Some k) q = ap (note_of None) here ∙ q

-- What the corners of an accepted triangle are noted with is still noted when they come up; j is the judge before, k after.
module _ (j k : Judge (Option ℕ)) (given a b c : ℕ) (s : Corners (Option ℕ)) (e : window_of k ≡ counted (window_of j))
    (f : Cornered (window_of j) a b c s) where
  pub noted_a : StillNoted (remembers (window_of k) given) a s.a.note
  noted_a = first_noted (window_of j) (window_of k) given a s.a e f.first.0

  module _ (u : Mem) (g : u ≡ mark (remembers (window_of k) given) a) where
    pub noted_b : StillNoted u b s.b.note
    noted_b = still_noted (remembers (window_of k) given) b a u s.b.note g (first_noted (window_of j) (window_of k) given b s.b e f.second.0)

    pub noted_c : (v : Mem) → v ≡ mark u b → StillNoted v c s.c.note
    noted_c v h =
        still_noted u c b v s.c.note h
        (still_noted (remembers (window_of k) given) c a u s.c.note g (first_noted (window_of j) (window_of k) given c s.c e f.third.0))

-- It is one whether a triangle is counted before its corners are marked or behind them.

abbrev pub count_in : Mem → Mem
count_in m = remembers (counted m.window) m.given

mark_counted : (m : Mem) (n : ℕ) → mark (count_in m) n ≡ count_in (mark m n)
mark_counted m n = at (pending (m.window.at n))
  where
    at : (o : Option Kept) → mark_if (count_in m) n o ≡ count_in (mark_if m n o)
    at None = refl
    at (Some v) = refl

brought_counted : (m : Mem) (n : ℕ) → brought (count_in m) n ≡ brought m n
brought_counted m n = at (pending (m.window.at n))
  where
    at : (o : Option Kept) → brought_if (count_in m) o ≡ brought_if m o
    at None = refl
    at (Some v) = refl

all_marked : (ns : List ℕ) (m : Mem) → mark_all (count_in m) ns ≡ count_in (mark_all m ns)
all_marked [] m = refl
all_marked (n ∷ ns) m = ap (λ (z : Mem). mark_all z ns) (mark_counted m n) ∙ all_marked ns (mark m n)

all_brought : (ns : List ℕ) (m : Mem) → brought_all (count_in m) ns ≡ brought_all m ns
all_brought [] m = refl
all_brought (n ∷ ns) m =
    ap (λ (z : List Event). z ++ brought_all (mark (count_in m) n) ns) (brought_counted m n)
    ∙ ap (λ (z : Mem). brought m n ++ brought_all z ns) (mark_counted m n)
    ∙ ap (λ (z : List Event). brought m n ++ z) (all_brought ns (mark m n))

-- The three corners: m is the memory before the triangle, and m1 to m4 are those behind each step.
module _ (m m1 m2 m3 m4 : Mem) (p a b c : ℕ) (x y z : Numbered) (e : m1 ≡ count_in m)
    (f : Marked m1 a x m2) (g : Marked m2 b y m3) (h : Marked m3 c z m4) where
  abbrev corners : List ℕ
  corners = a ∷ b ∷ c ∷ []

  pub triangle_marks : m4 ≡ mark_all (count_in m) corners
  triangle_marks =
      h.memory
      ∙ ap (λ (u : Mem). mark u c) (g.memory ∙ ap (λ (u : Mem). mark u b) (f.memory ∙ ap (λ (u : Mem). mark u a) e))

  vertices : events_of x.brought ++ (events_of y.brought ++ (events_of z.brought ++ [])) ≡ brought_all m corners
  vertices =
      (λ i. f.brings i ++ (second i ++ (third i ++ [])))
      ∙ ap (λ (u : Mem). brought_all u corners) e ∙ all_brought corners m
    where
      second : events_of y.brought ≡ brought (mark m1 a) b
      second = g.brings ∙ ap (λ (u : Mem). brought u b) f.memory

      third : events_of z.brought ≡ brought (mark (mark m1 a) b) c
      third = h.brings ∙ ap (λ (u : Mem). brought u c) (g.memory ∙ ap (λ (u : Mem). mark u b) f.memory)

  number_is : (n k : ℕ) → note_of None (m4.window.at n) ≡ Some k → k ≡ new_number (mark_all m corners) n
  number_is n k q =
      sym (ap (number_or 0) (sym (ap (λ (u : Mem). note_of None (u.window.at n)) (triangle_marks ∙ all_marked corners m)) ∙ q))

  pub triangle_hands :
      listed (record { first = x.brought; second = y.brought; third = z.brought; last = Some (Triangle p x.number y.number z.number) })
      ≡ compact_hands m (Triangle p a b c)
  triangle_hands = λ i. vertices i ++ (Triangle p (first i) (second i) (third i) ∷ [])
    where
      first : x.number ≡ new_number (mark_all m corners) a
      first = number_is a x.number (still_noted m3 a c m4 (Some x.number) h.memory (still_noted m2 a b m3 (Some x.number) g.memory f.number))

      second : y.number ≡ new_number (mark_all m corners) b
      second = number_is b y.number (still_noted m3 b c m4 (Some y.number) h.memory g.number)

      third : z.number ≡ new_number (mark_all m corners) c
      third = number_is c z.number h.number
