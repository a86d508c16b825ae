-- Lists of calls on a stage, and what they leave.
use Rattle.std.specs.Prelude.{◌≡◌, ℕ, List, [], ◌∷◌, ◌++◌, take, Ok, Err, Result, ◌≢◌}
use Rattle.mesh_stream.specs.declared.fault.Refusal.{Refusal}
use Rattle.mesh_stream.specs.declared.stage.Standing.{Standing}
use Rattle.mesh_stream.specs.Meaning.{Mark, unclosed, closed, Port, textless, open_for, shut, Outcome, outcome, Meaning, Lawful}
use Rattle.mesh_stream.specs.Calls.{Nexted, Fed, Closed}

-- A stage as its callers see it, with the law that it keeps.
pub record View (I : Type 0) : Type 0 where
  pub port : Port
  pub means : Meaning I
  pub lawful : Lawful port means

abbrev pub viewed : {I : Type 0} (p : Port) (G : Meaning I) → Lawful p G → View I
viewed p G l = record { port = p; means = G; lawful = l }

-- A call with its answer.
pub data Call (I : Type 0) : Type 0 where
  feeds : List ℕ → Result ℕ Refusal → Call I
  closes : Result (Unit {0}) Refusal → Call I
  asks : Result I Standing → Call I

abbrev pub Step : {I : Type 0} → View I → Call I → View I → Type 0
Step v (feeds piece r) w = Fed v.port v.means piece r w.port w.means
Step v (closes r) w = Closed v.port v.means r w.port w.means
Step v (asks r) w = Nexted v.port v.means r w.port w.means

-- From v these calls, in this order and with these answers, led to w: each starts from what the one before it left.
abbrev pub Run : {I : Type 0} → View I → List (Call I) → View I → Type 0
Run v [] w = w ≡ v
Run {I} v (c ∷ cs) w = (u : View I) × Step v c u × Run u cs w

-- the bytes that a list of calls took
abbrev pub taken : {I : Type 0} → List (Call I) → List ℕ
taken [] = []
taken (feeds piece (Ok k) ∷ cs) = take k piece ++ taken cs
taken (feeds piece (Err e) ∷ cs) = taken cs
taken (closes r ∷ cs) = taken cs
taken (asks a ∷ cs) = taken cs

-- the items that it handed over
abbrev pub handed : {I : Type 0} → List (Call I) → List I
handed [] = []
handed (feeds piece r ∷ cs) = handed cs
handed (closes r ∷ cs) = handed cs
handed (asks (Ok i) ∷ cs) = i ∷ handed cs
handed (asks (Err s) ∷ cs) = handed cs

abbrev pub mark_of : Port → Mark
mark_of textless = unclosed
mark_of (open_for n) = unclosed
mark_of shut = closed

abbrev pub prepends : {I : Type 0} → List I → Outcome I → Outcome I
prepends xs o = outcome (xs ++ o.items) o.stands

-- What a stage that meant G has left after these calls: what G gives for the bytes taken, less what was handed over.
pub record Left {I : Type 0} (G : Meaning I) (cs : List (Call I)) (w : View I) : Type 0 where
  pub now_left : G (taken cs) (mark_of w.port) ≡ prepends (handed cs) (w.means [] unclosed)
  -- and while it is not closed, the same for every text that may still come, with either mark
  pub still_left : (w.port ≢ shut) → (u : List ℕ) (m : Mark) → G (taken cs ++ u) m ≡ prepends (handed cs) (w.means u m)
