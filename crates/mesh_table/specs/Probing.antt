-- A list of slots as a finite map from keys to values, and what a search by probing asks of it.
--     lookup ss k        the value at key k
--     size ss            how many records there are
--     slot_ahead n h d   the slot d steps on from h, round a ring of n slots
--     Distinct ss        no key stands twice
--     Reached n ss       no empty slot stands between a record and its home
use Rattle.std.specs.Prelude.{◌≡◌, ℕ, ◌+◌, ◌-◌, ◌*◌, ◌/◌, ◌^◌, ◌<◌, true, cond, List, [], ◌∷◌, is_some, Some, None, Option, ◌≢◌, ◌⊎◌, nat_lt, slice_index_or}
use Rattle.mesh_table.specs.declared.key.Key.{Key}
use Rattle.mesh_table.specs.declared.number.SlotNumber.{SlotNumber}
use Rattle.mesh_table.specs.declared.ring.Record.{Record}
use Rattle.mesh_table.specs.declared.ring.Probe.{Probe}
use Rattle.mesh_table.specs.declared.ring.Probe.TheVariants.{Found, Vacant, Exhausted}
use Rattle.mesh_table.specs.Keys.{same_key, spread}

-- A slot has a record, or is empty.
abbrev pub Slot : Type 0 → Type 0
Slot V = Option (Record V)

-- The slot of a record.
abbrev pub holding : {V : Type 0} → Key → V → Slot V
holding k v = Some (record { key = k; value = v })

-- The value in a slot of key k, or else o.
abbrev pub pick : {V : Type 0} → Slot V → Key → Option V → Option V
pick None k o = o
pick (Some r) k o = cond (same_key r.key k) (Some r.value) o

abbrev pub lookup : {V : Type 0} → List (Slot V) → Key → Option V
lookup [] k = None
lookup (s ∷ ss) k = pick s k (lookup ss k)

abbrev pub filled : {V : Type 0} → Slot V → ℕ
filled None = 0
filled (Some r) = 1

abbrev pub size : {V : Type 0} → List (Slot V) → ℕ
size [] = 0
size (s ∷ ss) = filled s + size ss

-- The slot at i; past the end, an empty one.
abbrev pub slot_at : {V : Type 0} → List (Slot V) → ℕ → Slot V
slot_at ss i = slice_index_or ss i None

abbrev pub value_in : {V : Type 0} → Slot V → Option V
value_in None = None
value_in (Some r) = Some r.value

abbrev pub slot_ahead : ℕ → ℕ → ℕ → ℕ
slot_ahead n h d = cond (nat_lt (h + d) n) (h + d) (h + d - n)

-- How many steps on from h the slot i is.
abbrev pub steps_between : ℕ → ℕ → ℕ → ℕ
steps_between n h i = cond (nat_lt i h) (i + n - h) (i - h)

-- The home of key k, where a search for it begins: the spread, scaled down from 2^32 to n.
unfoldable pub home_slot : ℕ → Key → ℕ
home_slot n k = spread k * n / 2 ^ 32

-- A key that stands in two slots.
abbrev pub Twice : {V : Type 0} → List (Slot V) → Type 0
Twice {V} ss =
    (i : ℕ) × (j : ℕ) × (k : Key) × (v : V) × (w : V) × (i < j) × (slot_at ss i ≡ holding k v) × (slot_at ss j ≡ holding k w)

abbrev pub Distinct : {V : Type 0} → List (Slot V) → Type 0
Distinct ss = Twice ss → ⊥

-- A record e steps from its home, and an empty slot d steps from there, before it.
abbrev pub Cut : {V : Type 0} → ℕ → List (Slot V) → Type 0
Cut {V} n ss =
    (k : Key) × (v : V) × (d : ℕ) × (e : ℕ) × (e < n) × (slot_at ss (slot_ahead n (home_slot n k) e) ≡ holding k v) × (d < e)
    × (slot_at ss (slot_ahead n (home_slot n k) d) ≡ None)

abbrev pub Reached : {V : Type 0} → ℕ → List (Slot V) → Type 0
Reached n ss = Cut n ss → ⊥

abbrev pub Has : {V : Type 0} → Slot V → Key → Type 0
Has {V} s k = (v : V) × (s ≡ holding k v)

-- A slot that a search for k goes past: it is full, of another key.
abbrev pub Foreign : {V : Type 0} → Slot V → Key → Type 0
Foreign None k = ⊥
Foreign (Some r) k = r.key ≡ k → ⊥

-- The first d slots that a search for k comes to.
abbrev pub Passed : {V : Type 0} → ℕ → List (Slot V) → Key → ℕ → Type 0
Passed n ss k d = (e : ℕ) → e < d → Foreign (slot_at ss (slot_ahead n (home_slot n k) e)) k

-- Slot i is the first empty one that a search for k comes to.
pub record Vacancy {V : Type 0} (n : ℕ) (ss : List (Slot V)) (k : Key) (i : ℕ) : Type 0 where
  pub bare : slot_at ss i ≡ None
  pub steps : ℕ
  pub within : steps < n
  pub at : i ≡ slot_ahead n (home_slot n k) steps
  pub passed : Passed n ss k steps

-- How a search for k among n slots ends.
abbrev pub Probed : {V : Type 0} → (n : ℕ) → List (Slot V) → Key → Probe n → Type 0
Probed n ss k (Found i) = Has (slot_at ss i) k
Probed n ss k (Vacant i) = Vacancy n ss k i
Probed n ss k Exhausted = Passed n ss k n

-- Slots that may be searched.
pub record Sound {V : Type 0} (n : ℕ) (ss : List (Slot V)) : Type 0 where
  pub distinct : Distinct ss
  pub reached : Reached n ss

-- Slots that may be searched but for an empty slot, the hole, that may stand between a record and its home.
pub record Holed {V : Type 0} (n : ℕ) (ss : List (Slot V)) (hole : ℕ) : Type 0 where
  pub distinct : Distinct ss
  pub inside : hole < n
  pub bare : slot_at ss hole ≡ None
  pub reached : (c : Cut n ss) → slot_ahead n (home_slot n c.0) c.2 ≡ hole

-- The record in slot i, which the hole cuts off from its home.
pub record CutOff {V : Type 0} (n : ℕ) (ss : List (Slot V)) (hole i : ℕ) : Type 0 where
  pub inside : i < n
  pub key : Key
  pub value : V
  pub here : slot_at ss i ≡ holding key value
  pub before : steps_between n (home_slot n key) hole < steps_between n (home_slot n key) i

-- What the hole cuts off: the record in a slot, or nothing.
abbrev pub Behind : {V : Type 0} → (n : ℕ) → List (Slot V) → ℕ → Option (SlotNumber n) → Type 0
Behind n ss hole None = Sound n ss
Behind n ss hole (Some i) = CutOff n ss hole i

-- The same records, wherever they stand.
pub record Alike {V : Type 0} (ss ts : List (Slot V)) : Type 0 where
  pub size : size ts ≡ size ss
  pub lookup : (q : Key) → lookup ts q ≡ lookup ss q

-- ts is ss, with w at k.
pub record Becomes {V : Type 0} (ss ts : List (Slot V)) (k : Key) (w : Option V) : Type 0 where
  pub here : lookup ts k ≡ w
  pub other : (q : Key) → (q ≢ k) → lookup ts q ≡ lookup ss q

-- The map has k at slot i, or it has not, and slot i is where it may be put.
abbrev pub FoundAt : {V : Type 0} → List (Slot V) → Key → ℕ → Type 0
FoundAt ss k i = Has (slot_at ss i) k × (lookup ss k ≡ value_in (slot_at ss i)) × (is_some (lookup ss k) ≡ true)

abbrev pub FreeAt : {V : Type 0} → ℕ → List (Slot V) → Key → ℕ → Type 0
FreeAt n ss k i = Vacancy n ss k i × (lookup ss k ≡ None)

-- What the end of a search for k says of the map.
abbrev pub Sought : {V : Type 0} → (n : ℕ) → List (Slot V) → Key → Probe n → Type 0
Sought n ss k (Found i) = FoundAt ss k i
Sought n ss k (Vacant i) = FreeAt n ss k i
Sought n ss k Exhausted = (lookup ss k ≡ None) × (size ss ≡ n)

-- A search for k ends at slot i.
abbrev pub EndsAt : {V : Type 0} → ℕ → List (Slot V) → Key → ℕ → Type 0
EndsAt n ss k i = FoundAt ss k i ⊎ FreeAt n ss k i
