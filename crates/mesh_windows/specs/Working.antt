-- What each of the five layers does, by its window.
use Rattle.std.specs.Prelude.{ℕ, ◌+◌, min, Bool, false, cond, ◌&&◌, List, [], ◌∷◌, ◌++◌, Some, None, Option, pos}
use Rattle.mesh_stream.specs.declared.event.Point.{Point}
use Rattle.mesh_stream.specs.declared.event.Event.{Event}
use Rattle.mesh_stream.specs.declared.event.Event.TheVariants.{Vertex, Triangle, Finalization}
use Rattle.mesh_judge.specs.declared.live.Live.{Live}
use Rattle.mesh_judge.specs.Windows.{Window, renoted}
use Rattle.mesh_layer.specs.Machine.{Machine}
use Rattle.mesh_rules.specs.Rewriting.{is_sound}
use Rattle.mesh_rules.specs.Piling.{Rule, checks, cleans, clips, compacts, renumbers, name_of}
use Rattle.mesh_windows.specs.Windowing.{Memory, remembers, Work, machine}

abbrev pub unmarked : {T : Type 0} → Memory T → ℕ → ℕ → ℕ → Memory T
unmarked m a b c = m

abbrev pub no_more : ℕ → ℕ
no_more k = k

abbrev pub only_if : Bool → Event → List Event
only_if b e = cond b (e ∷ []) []

-- where a live vertex stands, and what is noted of it
abbrev pub point_of : {T : Type 0} → Option (Live T) → Point
point_of (Some v) = v.at
point_of None = record { x = pos 0; y = pos 0; z = pos 0 }

abbrev pub note_of : {T : Type 0} → T → Option (Live T) → T
note_of none (Some v) = v.note
note_of none None = none

-- The number after the last that was given, in 32 bits. No more than 100,000,000 are ever given, so the bound is never met.
abbrev pub next_number : ℕ → ℕ
next_number k = min (k + 1) 4294967295

abbrev pub check_work : Work (Unit {0})
check_work = record { notes = λ k v. tt; gives = no_more; marks = unmarked; hands = λ m e. e ∷ [] }

abbrev pub clean_work : Work (Unit {0})
clean_work = record {
  notes = λ k v. tt;
  gives = no_more;
  marks = unmarked;
  hands = λ m e. only_if (is_sound (λ n. point_of (m.window.at n)) e) e;
}

-- Clip notes whether the vertex lies inside.
abbrev pub inside_by : Window Bool → ℕ → Bool
inside_by w n = note_of false (w.at n)

abbrev pub clip_hands : (Point → Bool) → Memory Bool → Event → List Event
clip_hands inside m (Vertex p n v) = only_if (inside v) (Vertex p n v)
clip_hands inside m (Triangle p a b c) = only_if (inside_by m.window a && inside_by m.window b && inside_by m.window c) (Triangle p a b c)
clip_hands inside m (Finalization p i) = only_if (inside_by m.window i) (Finalization p i)

abbrev pub clip_work : (Point → Bool) → Work Bool
clip_work inside = record { notes = λ k v. inside v; gives = no_more; marks = unmarked; hands = clip_hands inside }

-- Renumber notes the new number.
abbrev pub number_by : Window ℕ → ℕ → ℕ
number_by w n = note_of 0 (w.at n)

abbrev pub renumber_hands : Memory ℕ → Event → List Event
renumber_hands m (Vertex p n v) = Vertex p (next_number m.given) v ∷ []
renumber_hands m (Triangle p a b c) = Triangle p (number_by m.window a) (number_by m.window b) (number_by m.window c) ∷ []
renumber_hands m (Finalization p i) = Finalization p (number_by m.window i) ∷ []

abbrev pub renumber_work : Work ℕ
renumber_work = record { notes = λ k v. next_number k; gives = next_number; marks = unmarked; hands = renumber_hands }

-- Compact notes the new number, or none while no triangle has named the vertex: such a vertex, if it is live, is pending.
abbrev pub if_unnumbered : Live (Option ℕ) → Option ℕ → Option (Live (Option ℕ))
if_unnumbered v (Some k) = None
if_unnumbered v None = Some v

abbrev pub pending : Option (Live (Option ℕ)) → Option (Live (Option ℕ))
pending None = None
pending (Some v) = if_unnumbered v v.note

-- A corner that is pending gets the next number, and is handed over.
abbrev pub mark_if : Memory (Option ℕ) → ℕ → Option (Live (Option ℕ)) → Memory (Option ℕ)
mark_if m n None = m
mark_if m n (Some v) = remembers (renoted m.window n v (Some (next_number m.given))) (next_number m.given)

abbrev pub mark : Memory (Option ℕ) → ℕ → Memory (Option ℕ)
mark m n = mark_if m n (pending (m.window.at n))

abbrev pub brought_if : Memory (Option ℕ) → Option (Live (Option ℕ)) → List Event
brought_if m None = []
brought_if m (Some v) = Vertex v.place (next_number m.given) v.at ∷ []

abbrev pub brought : Memory (Option ℕ) → ℕ → List Event
brought m n = brought_if m (pending (m.window.at n))

-- corner by corner, each in the memory that those before it left
abbrev pub mark_all : Memory (Option ℕ) → List ℕ → Memory (Option ℕ)
mark_all m [] = m
mark_all m (n ∷ ns) = mark_all (mark m n) ns

abbrev pub brought_all : Memory (Option ℕ) → List ℕ → List Event
brought_all m [] = []
brought_all m (n ∷ ns) = brought m n ++ brought_all (mark m n) ns

abbrev pub number_or : ℕ → Option ℕ → ℕ
number_or d (Some k) = k
number_or d None = d

-- the number that compact gave a vertex
abbrev pub new_number : Memory (Option ℕ) → ℕ → ℕ
new_number m n = number_or 0 (note_of None (m.window.at n))

abbrev pub follows_if : ℕ → Option ℕ → List Event
follows_if p (Some k) = Finalization p k ∷ []
follows_if p None = []

abbrev pub with_new_corners : ℕ → ℕ → ℕ → ℕ → Memory (Option ℕ) → List Event
with_new_corners p a b c m = Triangle p (new_number m a) (new_number m b) (new_number m c) ∷ []

abbrev pub compact_hands : Memory (Option ℕ) → Event → List Event
compact_hands m (Vertex p n v) = []
compact_hands m (Triangle p a b c) = brought_all m (a ∷ b ∷ c ∷ []) ++ with_new_corners p a b c (mark_all m (a ∷ b ∷ c ∷ []))
compact_hands m (Finalization p i) = follows_if p (note_of None (m.window.at i))

abbrev pub compact_work : Work (Option ℕ)
compact_work = record { notes = λ k v. None; gives = no_more; marks = λ m a b c. mark_all m (a ∷ b ∷ c ∷ []); hands = compact_hands }

-- what a layer notes of a vertex
abbrev pub Note : Rule → Type 0
Note checks = Unit {0}
Note cleans = Unit {0}
Note (clips inside) = Bool
Note compacts = Option ℕ
Note renumbers = ℕ

abbrev pub work_of : (r : Rule) → Work (Note r)
work_of checks = check_work
work_of cleans = clean_work
work_of (clips inside) = clip_work inside
work_of compacts = compact_work
work_of renumbers = renumber_work

abbrev pub windowed : ℕ → (r : Rule) → Machine (Memory (Note r)) Event Event
windowed limit r = machine limit (name_of r) (work_of r)
