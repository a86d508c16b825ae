-- What each call does: p and G are the port and the meaning of the stage before it, q and H after it.
use Rattle.std.specs.Prelude.{◌≡◌, ℕ, ◌≤◌, min, List, [], ◌++◌, length, take, Ok, Err, Result}
use Rattle.mesh_stream.specs.declared.fault.Refusal.{Refusal}
use Rattle.mesh_stream.specs.declared.fault.Refusal.TheVariants.{InletClosed}
use Rattle.mesh_stream.specs.declared.stage.Standing.{Standing}
use Rattle.mesh_stream.specs.Numbers.{refusal_number}
use Rattle.mesh_stream.specs.Meaning.{Mark, unclosed, closed, outcome, prepend, Meaning, Port, textless, open_for, shut, room, Open, IsWaiting, Same}

-- Only close turns an open port into a closed one, and nothing opens it again; the room may change.
abbrev pub SameKind : Port → Port → Type 0
SameKind textless q = q ≡ textless
SameKind (open_for n) q = (k : ℕ) × (q ≡ open_for k)
SameKind shut q = q ≡ shut

-- An open inlet that waits has room for a byte at least.
abbrev pub Roomy : Port → Type 0
Roomy textless = Unit {0}
Roomy (open_for n) = 1 ≤ n
Roomy shut = Unit {0}

module _ {I : Type 0} (p : Port) (G : Meaning I) where
  pub record HandsOver (i : I) (q : Port) (H : Meaning I) : Type 0 where
    -- at every text and mark the item was first, and is gone now
    pub first : (t : List ℕ) (m : Mark) → G t m ≡ prepend i (H t m)
    pub port_kept : SameKind p q

  pub record Idles (s : Standing) (q : Port) (H : Meaning I) : Type 0 where
    -- there was none, and this is how it stands
    pub none : G [] unclosed ≡ outcome [] s
    pub same : Same G H
    pub port_kept : SameKind p q
    pub roomy : IsWaiting s → Roomy q

  abbrev pub Nexted : Result I Standing → Port → Meaning I → Type 0
  Nexted (Ok i) q H = HandsOver i q H
  Nexted (Err s) q H = Idles s q H

  -- Refused for being closed: nothing changed.
  pub record Refused (e : Refusal) (q : Port) (H : Meaning I) : Type 0 where
    pub why : e ≡ InletClosed
    pub number : refusal_number e ≡ 1
    pub was_shut : p ≡ shut
    pub same : Same G H
    pub port_same : q ≡ p

  pub record Takes (piece : List ℕ) (k : ℕ) (q : Port) (H : Meaning I) : Type 0 where
    pub was_open : Open p
    -- as many bytes as there is room for
    pub count : k ≡ min (length piece) (room p)
    -- whatever text comes now comes behind the bytes taken
    pub behind : (t : List ℕ) (m : Mark) → H t m ≡ G (take k piece ++ t) m
    pub stays_open : Open q

  abbrev pub Fed : List ℕ → Result ℕ Refusal → Port → Meaning I → Type 0
  Fed piece (Ok k) q H = Takes piece k q H
  Fed piece (Err e) q H = Refused e q H

  pub record Shuts (q : Port) (H : Meaning I) : Type 0 where
    pub was_open : Open p
    pub now_shut : q ≡ shut
    -- whatever text and mark come now, it is the closed text that counts
    pub final : (t : List ℕ) (m : Mark) → H t m ≡ G [] closed

  abbrev pub Closed : Result (Unit {0}) Refusal → Port → Meaning I → Type 0
  Closed (Ok _) q H = Shuts q H
  Closed (Err e) q H = Refused e q H
