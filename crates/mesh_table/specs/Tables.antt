-- A table as a finite map from keys to values.
--     record_at t k   the value at key k
--     records t       how many records there are
--     limit_of t      how many there may be
--     Sets t u k w    u is t, with w at k
--     Kept t u        u is t
use Rattle.std.specs.Prelude.{◌≡◌, ℕ, ◌+◌, ◌^◌, ◌<◌, ◌≤◌, Bool, true, false, cond, ◌&&◌, length, is_some, Some, None, Ok, Err, Option, Result, ◌≢◌, nat_le, nat_lt}
use Rattle.mesh_table.specs.declared.key.Key.{Key}
use Rattle.mesh_table.specs.declared.table.InsertError.{InsertError}
use Rattle.mesh_table.specs.declared.table.InsertError.TheVariants.{KeyPresent, AtLimit}
use Rattle.mesh_table.specs.declared.table.Table.{Table}
use Rattle.mesh_table.specs.Keys.{vertex_key}
use Rattle.mesh_table.specs.Probing.{lookup, size, Distinct, Reached}

abbrev pub record_at : {V : Type 0} {n : ℕ} → Table V n → Key → Option V
record_at t k = lookup t.slots k

abbrev pub records : {V : Type 0} {n : ℕ} → Table V n → ℕ
records t = t.count

abbrev pub limit_of : {V : Type 0} {n : ℕ} → Table V n → ℕ
limit_of t = t.limit

-- What holds of every table: no key stands twice, no search breaks off before its key, and there are no more records than may be.
pub record OfEveryTable {V : Type 0} {n : ℕ} (t : Table V n) : Type 0 where
  pub some_slots : 0 < n
  pub few_slots : n < 2 ^ 32
  pub long : length t.slots ≡ n
  pub distinct : Distinct t.slots
  pub reached : Reached n t.slots
  pub counted : size t.slots ≡ records t
  pub few : records t ≤ limit_of t
  pub served : limit_of t ≤ n

pub record Sets {V : Type 0} {n : ℕ} (t u : Table V n) (k : Key) (w : Option V) : Type 0 where
  pub here : record_at u k ≡ w
  pub other : (q : Key) → (q ≢ k) → record_at u q ≡ record_at t q
  pub limit : limit_of u ≡ limit_of t

pub record Kept {V : Type 0} {n : ℕ} (t u : Table V n) : Type 0 where
  pub same : (q : Key) → record_at u q ≡ record_at t q
  pub records : records u ≡ records t
  pub limit : limit_of u ≡ limit_of t

-- Whether n slots can serve a table of at most so many records.
abbrev pub serves : ℕ → ℕ → Bool
serves n limit = nat_lt 0 n && nat_lt n (2 ^ 32) && nat_le limit n

-- A table that has no record.
pub record Empty {V : Type 0} {n : ℕ} (most : ℕ) (t : Table V n) : Type 0 where
  pub records : records t ≡ 0
  pub limit : limit_of t ≡ most
  pub none : (q : Key) → record_at t q ≡ None

-- A new table, if there is one, is empty.
abbrev pub Made : {V : Type 0} {n : ℕ} → ℕ → Option (Table V n) → Type 0
Made {n = n} limit None = serves n limit ≡ false
Made {n = n} limit (Some t) =
    (serves n limit ≡ true) × Empty limit t

abbrev pub Inserted : {V : Type 0} {n : ℕ} → Table V n → Table V n → Key → V → Result (Unit {0}) InsertError → Type 0
Inserted t u k v (Ok x) =
    (record_at t k ≡ None) × (records t < limit_of t) × (records u ≡ records t + 1) × Sets t u k (Some v)
Inserted t u k v (Err KeyPresent) = (is_some (record_at t k) ≡ true) × Kept t u
Inserted t u k v (Err AtLimit) = (record_at t k ≡ None) × (records t ≡ limit_of t) × Kept t u

abbrev pub Changed : {V : Type 0} {n : ℕ} → Table V n → Table V n → Key → V → Bool → Type 0
Changed t u k v true = (is_some (record_at t k) ≡ true) × (records u ≡ records t) × Sets t u k (Some v)
Changed t u k v false = (record_at t k ≡ None) × Kept t u

-- The record at k, if there is one, is out, and handed back.
abbrev pub Removed : {V : Type 0} {n : ℕ} → Table V n → Table V n → Key → Option V → Type 0
Removed t u k r = (r ≡ record_at t k) × (records u + cond (is_some r) 1 0 ≡ records t) × Sets t u k None

-- The record of the lowest vertex number up to m that has one.
abbrev pub Lowest : {V : Type 0} {n : ℕ} → Table V n → ℕ → Option V → Type 0
Lowest t m None = (i : ℕ) → i ≤ m → record_at t (vertex_key i) ≡ None
Lowest t m (Some v) =
    (i : ℕ) × (i ≤ m) × (record_at t (vertex_key i) ≡ Some v) × ((j : ℕ) → j < i → record_at t (vertex_key j) ≡ None)
