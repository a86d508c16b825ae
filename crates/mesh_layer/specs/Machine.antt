-- A machine takes items one by one and hands over a list for each: what it hands over for a whole list.
use Rattle.std.specs.Prelude.{List, [], ◌∷◌}
use Rattle.mesh_stream.specs.declared.fault.Fault.{Fault}
use Rattle.mesh_stream.specs.declared.stage.Standing.{Standing}
use Rattle.mesh_stream.specs.declared.stage.Standing.TheVariants.{Faulty}
use Rattle.mesh_stream.specs.Meaning.{Outcome, outcome, IsWaiting}
use Rattle.mesh_stream.specs.Runs.{prepends}

-- What an item does: the machine goes on, having handed over a list; or it stops at a fault.
pub data Verdict (M O : Type 0) : Type 0 where
  goes : M → List O → Verdict M O
  stops : Fault → Verdict M O

pub record Machine (M I O : Type 0) : Type 0 where
  pub step : M → I → Verdict M O
  -- how it stands at the end of a list, by how what gave the list stands
  pub end : M → Standing → Standing

abbrev pub after : {M O : Type 0} → Verdict M O → (M → Outcome O) → Outcome O
after (goes m os) k = prepends os (k m)
after (stops f) k = outcome [] (Faulty f)

abbrev pub run : {M I O : Type 0} → Machine M I O → M → List I → Standing → Outcome O
run w m [] s = outcome [] (w.end m s)
run w m (x ∷ xs) s = after (w.step m x) (λ n. run w n xs s)

-- what it makes of an outcome, with these items in front
abbrev pub runs_on : {M I O : Type 0} → Machine M I O → List O → M → Outcome I → Outcome O
runs_on w os m o = prepends os (run w m o.items o.stands)

-- At the end of a list it waits exactly where the list may go on.
pub record Patient {M I O : Type 0} (w : Machine M I O) : Type 0 where
  pub waits : (m : M) (s : Standing) → IsWaiting (w.end m s) → IsWaiting s
  pub stays : (m : M) (s : Standing) → IsWaiting s → IsWaiting (w.end m s)
