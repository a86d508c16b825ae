-- The keys of records, and their spread, from which the home of a record among the slots comes.
use Rattle.std.specs.Prelude.{ℕ, ◌+◌, ◌*◌, ◌%◌, ◌^◌, min, max, Bool, ◌&&◌, ◌==◌}
use Rattle.mesh_table.specs.declared.key.Key.{Key}

-- The key of a vertex has its number, and 0.
abbrev pub vertex_key : ℕ → Key
vertex_key n = record { first = n; second = 0 }

-- The key of an edge has its ends, the lower first.
abbrev pub edge_key : ℕ → ℕ → Key
edge_key a b = record { first = min a b; second = max a b }

abbrev pub same_key : Key → Key → Bool
same_key j k = j.first == k.first && j.second == k.second

-- The factor is 2^32 over the golden ratio, so that numbers near one another spread far apart.
abbrev pub part_spread : ℕ → ℕ
part_spread n = n * 2654435769 % 2 ^ 32

abbrev pub spread : Key → ℕ
spread k = (part_spread k.first + part_spread k.second) % 2 ^ 32
