-- What the filter of the border list keeps.
use Rattle.std.specs.Prelude.{◌≡◌, ℕ, ◌+◌, ◌<◌, ◌≤◌, Bool, true, false, Some, None, Option}
use Rattle.std.specs.Option.{option_map}
use Rattle.mesh_judge.specs.declared.live.Live.{Live}
use Rattle.mesh_judge.specs.Windows.{Window}
use Rattle.mesh_edge_windows.specs.declared.open_edge.OpenEdge.{OpenEdge}
use Rattle.mesh_edge_windows.specs.Edges.{Edges}
use Rattle.mesh_border.specs.declared.neighbours.Neighbours.{Neighbours}
use Rattle.mesh_border.specs.Rows.{vertex_of, free_rows, near}

-- A window without what is noted of the vertices: the border list means the same whatever rows they have.
abbrev pub plain_live : {T : Type 0} → Live T → Live (Unit {0})
plain_live v = record { place = v.place; at = v.at; note = tt }

abbrev pub plain : {T : Type 0} → Window T → Window (Unit {0})
plain w = record {
  at = λ n. option_map plain_live (w.at n);
  live_count = w.live_count;
  highest = w.highest;
  triangles = w.triangles;
}

-- Both vertices are live, and the row of the first says that the second may be joined with it.
abbrev pub near_live : Neighbours → Option (Live ℕ) → Option (Live ℕ) → Bool
near_live n None w = false
near_live n (Some v) None = false
near_live n (Some v) (Some w) = near n v.note w.note

-- The window of the judge, with the row of each live vertex noted, the open edges and the neighbours go together.
pub record Kept (limit : ℕ) (w : Window ℕ) (t : Edges) (n : Neighbours) : Type 0 where
  pub limit_is : limit ≡ 1024
  -- each live vertex has a row, and as many rows are free as vertices may come yet
  pub rows : (i : ℕ) (v : Live ℕ) → w.at i ≡ Some v → (v.note < 1024) × (vertex_of n v.note ≡ Some i)
  pub free : free_rows n + w.live_count ≡ 1024
  -- no live vertex has a number above the highest
  pub numbers : (i : ℕ) (v : Live ℕ) → w.at i ≡ Some v → i ≤ w.highest
  -- both ends of an open edge are live, and each says that the other may be joined with it
  pub ends : (a b : ℕ) (o : OpenEdge) → t.between a b ≡ Some o → near_live n (w.at a) (w.at b) ≡ true
