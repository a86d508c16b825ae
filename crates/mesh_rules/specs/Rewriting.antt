-- What each of the five layers makes of a list of accepted events: by the whole list, with no window.
use Rattle.std.specs.Prelude.{ℕ, suc, Bool, true, false, not, cond, ◌&&◌, List, [], ◌∷◌, ◌++◌, map, filter, ◌==◌}
use Rattle.std.specs.List.{flat_map}
use Rattle.mesh_stream.specs.declared.event.Point.{Point}
use Rattle.mesh_stream.specs.declared.event.Event.{Event}
use Rattle.mesh_stream.specs.declared.event.Event.TheVariants.{Vertex, Triangle, Finalization}
use Rattle.mesh_stream.specs.Lists.{has}
use Rattle.mesh_stream.specs.Events.{introduced, point}
use Rattle.mesh_rules.specs.Degenerate.{degenerate}

-- Clean removes the degenerate triangles.

abbrev pub is_sound : (ℕ → Point) → Event → Bool
is_sound at (Vertex p n v) = true
is_sound at (Triangle p a b c) = not (degenerate (at a) (at b) (at c))
is_sound at (Finalization p i) = true

abbrev pub cleaned : List Event → List Event
cleaned es = filter (is_sound (point es)) es

-- Clip keeps the vertices inside a set of points, the triangles whose three corners are kept, and the finalizations of kept vertices.

abbrev pub names_kept : (ℕ → Bool) → Event → Bool
names_kept kept (Vertex p n v) = kept n
names_kept kept (Triangle p a b c) = kept a && kept b && kept c
names_kept kept (Finalization p i) = kept i

abbrev pub clipped : (Point → Bool) → List Event → List Event
clipped inside es = filter (names_kept (λ n. inside (point es n))) es

-- Renumber gives the k-th vertex event the number k; triangles and finalizations follow.

abbrev pub renamed : (ℕ → ℕ) → Event → Event
renamed f (Vertex p n v) = Vertex p (f n) v
renamed f (Triangle p a b c) = Triangle p (f a) (f b) (f c)
renamed f (Finalization p i) = Finalization p (f i)

-- how many numbers stand before n in a list
abbrev pub count_before : List ℕ → ℕ → ℕ
count_before [] n = 0
count_before (m ∷ ms) n = cond (n == m) 0 (suc (count_before ms n))

-- the position of n in a list, counted from 1
abbrev pub position : List ℕ → ℕ → ℕ
position ms n = suc (count_before ms n)

abbrev pub renumbered : List Event → List Event
renumbered es = map (renamed (position (introduced es))) es

-- Compact keeps the vertices that some triangle names. Each moves to directly before the first triangle that names it, several in
-- corner order, and is numbered from 1 in the new order; triangles and finalizations of kept vertices follow in their order.

-- the corners of the triangles of a list
abbrev pub named : List Event → List ℕ
named [] = []
named (Vertex p n v ∷ es) = named es
named (Triangle p a b c ∷ es) = a ∷ b ∷ c ∷ named es
named (Finalization p i ∷ es) = named es

abbrev pub introduces : ℕ → Event → Bool
introduces n (Vertex p m v) = n == m
introduces n (Triangle p a b c) = false
introduces n (Finalization p i) = false

-- the event of a list that introduces vertex n
abbrev pub introduction : List Event → ℕ → List Event
introduction all n = filter (introduces n) all

-- those of some numbers that were not seen before, each once
abbrev pub unseen : List ℕ → List ℕ → List ℕ
unseen seen [] = []
unseen seen (n ∷ ns) = cond (has n seen) (unseen seen ns) (n ∷ unseen (n ∷ seen) ns)

-- Of the list `all` the events `rest` are still to come, and triangles have named the vertices `seen`.
abbrev pub moved : List Event → List ℕ → List Event → List Event
moved all seen [] = []
moved all seen (Vertex p n v ∷ rest) = moved all seen rest
moved all seen (Triangle p a b c ∷ rest) =
    flat_map (introduction all) (unseen seen (a ∷ b ∷ c ∷ [])) ++ (Triangle p a b c ∷ moved all (a ∷ b ∷ c ∷ seen) rest)
moved all seen (Finalization p i ∷ rest) =
    cond (has i (named all)) (Finalization p i ∷ []) [] ++ moved all seen rest

abbrev pub compacted : List Event → List Event
compacted es = renumbered (moved es [] es)
