-- What every record in a judge's table keeps.
use Rattle.std.specs.Prelude.{◌≡◌, ℕ, Bool, false, ◌&&◌, Some, nat_le}
use Rattle.mesh_stream.specs.Ranges.{in_space}
use Rattle.mesh_table.specs.declared.key.Key.{Key}
use Rattle.mesh_table.specs.declared.table.Table.{Table}
use Rattle.mesh_table.specs.Tables.{record_at}
use Rattle.mesh_judge.specs.declared.live.Live.{Live}

-- The vertex stands in space, and its number is at most the highest.
abbrev pub sound_record : {T : Type 0} → ℕ → Key → Live T → Bool
sound_record highest k v = in_space v.at && nat_le k.first highest

-- a record that is not so
abbrev pub Stray : {T : Type 0} {n : ℕ} → Table (Live T) n → ℕ → Type 0
Stray {T} t highest = (k : Key) × (v : Live T) × (record_at t k ≡ Some v) × (sound_record highest k v ≡ false)
