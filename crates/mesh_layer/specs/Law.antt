-- The law on runs: what every list of calls on a pile of layers gives, whatever the layers, the regions and the bottom.
use Rattle.std.specs.Prelude.{◌≡◌, ◌≢◌, ℕ, ◌≤◌, Bool, true, false, List, [], ◌∷◌, ◌++◌, length, filter, Ok, Err, ◌==◌, ◌||◌}
use Rattle.mesh_stream.specs.declared.event.Event.{Event}
use Rattle.mesh_stream.specs.declared.event.Event.TheVariants.{Triangle}
use Rattle.mesh_stream.specs.declared.stage.Standing.{Standing}
use Rattle.mesh_stream.specs.declared.stage.Standing.TheVariants.{Waiting, Ended, Faulty}
use Rattle.mesh_stream.specs.Lists.{has}
use Rattle.mesh_stream.specs.Events.{introduced, finalized}
use Rattle.mesh_stream.specs.Live.{width}
use Rattle.mesh_stream.specs.Meaning.{Mark, shut, Outcome, Meaning, Begins, Same}
use Rattle.mesh_stream.specs.Runs.{View, Call, feeds, closes, asks, Step, Run, taken, handed, mark_of}
use Rattle.mesh_judge.specs.Accepting.{refusal, accepted}
use Rattle.mesh_rules.specs.Piling.{Rule, through, pile, lowest_stands}

-- A stage that gives, for every text and mark, what F makes of what a bottom that means G gives.
abbrev pub MakesOf : {I : Type 0} → (Outcome Event → Outcome I) → Meaning Event → View I → Type 0
MakesOf F G v = (t : List ℕ) (m : Mark) → v.means t m ≡ F (G t m)

-- Next gives this item from here; or it gives none, and answers how the stage stands.
abbrev pub Gives : {I : Type 0} → View I → I → Type 0
Gives w i = (u : View _) × Step w (asks (Ok i)) u

abbrev pub Idles : {I : Type 0} → View I → Standing → Type 0
Idles w s = (u : View _) × Step w (asks (Err s)) u

-- On a stage that gives what F makes of what a bottom that means G gives, the calls cs led to w. The whole-mesh list is that of the
-- bytes taken, at the present mark.
module _ {I : Type 0} (F : Outcome Event → Outcome I) (G : Meaning Event) (cs : List (Call I)) (w : View I) where
  abbrev pub whole : Outcome I
  whole = F (G (taken cs) (mark_of w.port))

  pub record Follows : Type 0 where
    -- What was handed over begins the whole-mesh list of the bytes taken,
    pub begins : Begins (handed cs) whole.items
    -- and, before closing, that of every text that goes on from them, with either mark.
    pub begins_any : w.port ≢ shut → (u : List ℕ) (m : Mark) → Begins (handed cs) (F (G (taken cs ++ u) m)).items
    -- Next gives no item exactly when that list is used up, and then answers how it stands.
    pub used_up : (s : Standing) → Idles w s → (handed cs ≡ whole.items) × (s ≡ whole.stands)
    pub not_used_up : (i : I) → Gives w i → handed cs ≢ whole.items
    -- A stage alike, of whatever type, that took the same text in whatever pieces, both open or both closed: if next gives neither an
    -- item, they handed over the same and stand the same.
    pub alike : (H : Meaning Event) (v x : View I) (ds : List (Call I)) (s r : Standing)
        → Same G H → MakesOf F H v → Run v ds x
        → taken ds ≡ taken cs → mark_of x.port ≡ mark_of w.port → Idles w s → Idles x r
        → (handed ds ≡ handed cs) × (r ≡ s)

-- A pile of these layers, from the lowest up, over a bottom that means G.
abbrev pub Piled : ℕ → List Rule → Meaning Event → View Event → Type 0
Piled limit rules G v = MakesOf (pile limit rules) G v

-- whether some next among the calls answered ended
abbrev pub is_end : Standing → Bool
is_end Waiting = false
is_end Ended = true
is_end (Faulty f) = false

abbrev pub has_ended : List (Call Event) → Bool
has_ended [] = false
has_ended (feeds piece r ∷ cs) = has_ended cs
has_ended (closes r ∷ cs) = has_ended cs
has_ended (asks (Ok e) ∷ cs) = has_ended cs
has_ended (asks (Err s) ∷ cs) = is_end s || has_ended cs

-- No triangle names a vertex before its introduction or after its finalization.
abbrev pub WellFormed : List Event → Type 0
WellFormed es = (before after : List Event) (p a b c n : ℕ) → es ≡ before ++ (Triangle p a b c ∷ after) → has n (a ∷ b ∷ c ∷ []) ≡ true
    → (has n (introduced before) ≡ true) × (has n (finalized before) ≡ false)

-- Each vertex has exactly one finalization.
abbrev pub ClosedOff : List Event → Type 0
ClosedOff es = (n : ℕ) → has n (introduced es) ≡ true → length (filter (λ m. n == m) (finalized es)) ≡ 1

-- The pile: layers `lower`, from the lowest up, then the layer `top`, over a bottom that means G.
module _ (limit : ℕ) (lower : List Rule) (top : Rule) (G : Meaning Event) where
  abbrev pub layers : List Rule
  layers = lower ++ (top ∷ [])

  -- The calls cs led to w.
  module _ (cs : List (Call Event)) (w : View Event) where
    -- what the bottom gives for the bytes taken, at the present mark
    abbrev pub bottom_outcome : Outcome Event
    bottom_outcome = G (taken cs) (mark_of w.port)

    pub record LawKept : Type 0 where
      -- What was handed over follows what the layers make of the bottom's list.
      pub follows : Follows (pile limit layers) G cs w
      -- No triangle handed over names a vertex before its introduction or after its finalization.
      pub well_formed : WellFormed (handed cs)
      -- Once next has answered ended, each vertex handed over has exactly one finalization handed over.
      pub closed_off : has_ended cs ≡ true → ClosedOff (handed cs)
      -- What was handed over is no wider than the bottom's accepted events.
      pub no_wider : width (handed cs) ≤ width (accepted (refusal limit) bottom_outcome.items)
      -- The pile stands as its lowest layer alone would: so only the bottom or the lowest layer names a fault.
      pub stands_as_lowest : (s : Standing) → Idles w s → s ≡ lowest_stands limit layers bottom_outcome

  -- Every list of calls from here, in any order and number, refused ones and calls after the end among them, keeps the law.
  abbrev pub Law : View Event → Type 0
  Law v = (cs : List (Call Event)) (w : View Event) → Run v cs w → LawKept cs w

-- A layer that does what this rule says was put on a stage seen as v, and is seen as w.
pub record PutOn (limit : ℕ) (rule : Rule) (v w : View Event) : Type 0 where
  -- It takes text as the stage below does.
  pub port_same : w.port ≡ v.port
  -- For every text and mark it gives what the rule makes of what is given below,
  pub by_rule : (t : List ℕ) (m : Mark) → w.means t m ≡ through limit rule (v.means t m)
  -- so it is one layer more on whatever pile is below,
  pub piled : (lower : List Rule) (G : Meaning Event) → Piled limit lower G v → Piled limit (lower ++ (rule ∷ [])) G w
  -- and every run from it keeps the law.
  pub law : (lower : List Rule) (G : Meaning Event) → Piled limit lower G v → Law limit lower rule G w
