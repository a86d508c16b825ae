-- What compact makes of one corner, and what it has to hand over for one event.
use Rattle.std.specs.Prelude.{◌≡◌, ℕ, true, List, [], ◌∷◌, ◌++◌, is_some, Some, None, Option}
use Rattle.mesh_stream.specs.declared.event.Event.{Event}
use Rattle.mesh_judge.specs.Judging.{window_of}
use Rattle.mesh_windows.specs.Windowing.{Memory, remembers}
use Rattle.mesh_windows.specs.Working.{note_of, mark, brought}
use Rattle.mesh_filters.specs.declared.compact.Compact.{Compact}
use Rattle.mesh_filters.specs.declared.compact.brought.Brought.{Brought}
use Rattle.mesh_filters.specs.declared.compact.number.Numbered.{Numbered}
use Rattle.mesh_filters.specs.Handing.{events_of}

abbrev pub memory_of : Compact → Memory (Option ℕ)
memory_of c = remembers (window_of c.judge) c.given

abbrev pub only : Option Event → Brought
only e = record { first = None; second = None; third = None; last = e }

abbrev pub nothing : Brought
nothing = only None

-- the vertices and then the event itself, as they are handed over
abbrev pub listed : Brought → List Event
listed r = (events_of r.first ++ (events_of r.second ++ (events_of r.third ++ []))) ++ events_of r.last

-- The first event of a list is taken out: r is what was to be handed over before, s what is left.
abbrev pub Popped : Brought → Option Event → Brought → Type 0
Popped r (Some e) s = listed r ≡ e ∷ listed s
Popped r None s = (listed r ≡ []) × (s ≡ nothing)

-- Vertex n is live, and if there was a number noted of it, it still is.
abbrev pub StillNoted : Memory (Option ℕ) → ℕ → Option ℕ → Type 0
StillNoted m n None = is_some (m.window.at n) ≡ true
StillNoted m n (Some k) = note_of None (m.window.at n) ≡ Some k

-- Vertex n is marked and has its number; m is the memory before, u the memory after.
pub record Marked (m : Memory (Option ℕ)) (n : ℕ) (r : Numbered) (u : Memory (Option ℕ)) : Type 0 where
  pub memory : u ≡ mark m n
  pub brings : events_of r.brought ≡ brought m n
  pub number : note_of None (u.window.at n) ≡ Some r.number
