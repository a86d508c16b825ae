-- Views of an event and of a list of events.
use Rattle.std.specs.Prelude.{ℕ, suc, cond, List, [], ◌∷◌, pos, ◌==◌}
use Rattle.mesh_stream.specs.declared.event.Point.{Point}
use Rattle.mesh_stream.specs.declared.event.Event.{Event}
use Rattle.mesh_stream.specs.declared.event.Event.TheVariants.{Vertex, Triangle, Finalization}

abbrev pub place_of : Event → ℕ
place_of (Vertex p n at) = p
place_of (Triangle p a b c) = p
place_of (Finalization p i) = p

abbrev pub placed : ℕ → Event → Event
placed q (Vertex p n at) = Vertex q n at
placed q (Triangle p a b c) = Triangle q a b c
placed q (Finalization p i) = Finalization q i

-- the numbers of the vertices that a list introduces, in order
abbrev pub introduced : List Event → List ℕ
introduced [] = []
introduced (Vertex p n at ∷ es) = n ∷ introduced es
introduced (Triangle p a b c ∷ es) = introduced es
introduced (Finalization p i ∷ es) = introduced es

-- the numbers of those that it finalizes
abbrev pub finalized : List Event → List ℕ
finalized [] = []
finalized (Vertex p n at ∷ es) = finalized es
finalized (Triangle p a b c ∷ es) = finalized es
finalized (Finalization p i ∷ es) = i ∷ finalized es

-- how many triangles it has
abbrev pub triangles : List Event → ℕ
triangles [] = 0
triangles (Vertex p n at ∷ es) = triangles es
triangles (Triangle p a b c ∷ es) = suc (triangles es)
triangles (Finalization p i ∷ es) = triangles es

-- the coordinates of vertex n, looked up in the whole list
abbrev pub point : List Event → ℕ → Point
point [] n = record { x = pos 0; y = pos 0; z = pos 0 }
point (Vertex p m at ∷ es) n = cond (n == m) at (point es n)
point (Triangle p a b c ∷ es) n = point es n
point (Finalization p i ∷ es) n = point es n

-- the place at which vertex n was introduced
abbrev pub birthplace : List Event → ℕ → ℕ
birthplace [] n = 0
birthplace (Vertex p m at ∷ es) n = cond (n == m) p (birthplace es n)
birthplace (Triangle p a b c ∷ es) n = birthplace es n
birthplace (Finalization p i ∷ es) n = birthplace es n
