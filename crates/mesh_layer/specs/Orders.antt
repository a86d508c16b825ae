-- Orders worked off on a pile, and the log of them.
use Rattle.std.specs.Prelude.{◌≡◌, ℕ, min, List, [], ◌∷◌, length, take, drop, map, Result}
use Rattle.mesh_stream.specs.declared.event.Event.{Event}
use Rattle.mesh_stream.specs.declared.stage.Standing.{Standing}
use Rattle.mesh_stream.specs.Meaning.{Meaning}
use Rattle.mesh_stream.specs.Runs.{View, Call, feeds, closes, asks, Step, Run}
use Rattle.mesh_rules.specs.Piling.{Rule}
use Rattle.mesh_layer.specs.declared.order.Order.{Order}
use Rattle.mesh_layer.specs.declared.order.Order.TheVariants.{Feed, Close, Next}
use Rattle.mesh_layer.specs.declared.order.Reply.{Reply}
use Rattle.mesh_layer.specs.declared.order.Reply.TheVariants.{Fed, Closed, Gave}
use Rattle.mesh_layer.specs.Law.{Piled, layers, LawKept}

-- The order and its reply are this call with its answer.
abbrev pub IsCall : Order → Reply Event → Call Event → Type 0
IsCall (Feed piece) (Fed r) c = c ≡ feeds piece.now r
IsCall (Feed piece) (Closed r) c = ⊥
IsCall (Feed piece) (Gave r) c = ⊥
IsCall Close (Fed r) c = ⊥
IsCall Close (Closed r) c = c ≡ closes r
IsCall Close (Gave r) c = ⊥
IsCall Next (Fed r) c = ⊥
IsCall Next (Closed r) c = ⊥
IsCall Next (Gave r) c = c ≡ asks r

abbrev pub AreCalls : List Order → List (Reply Event) → List (Call Event) → Type 0
AreCalls [] [] [] = Unit {0}
AreCalls [] [] (c ∷ cs) = ⊥
AreCalls [] (r ∷ rs) cs = ⊥
AreCalls (o ∷ os) [] cs = ⊥
AreCalls (o ∷ os) (r ∷ rs) [] = ⊥
AreCalls (o ∷ os) (r ∷ rs) (c ∷ cs) = IsCall o r c × AreCalls os rs cs

-- The order was obeyed: this call led from v to w.
abbrev pub Obeyed : View Event → Order → Reply Event → View Event → Type 0
Obeyed v (Feed piece) (Fed r) w = Step v (feeds piece.now r) w
Obeyed v (Feed piece) (Closed r) w = ⊥
Obeyed v (Feed piece) (Gave r) w = ⊥
Obeyed v Close (Fed r) w = ⊥
Obeyed v Close (Closed r) w = Step v (closes r) w
Obeyed v Close (Gave r) w = ⊥
Obeyed v Next (Fed r) w = ⊥
Obeyed v Next (Closed r) w = ⊥
Obeyed v Next (Gave r) w = Step v (asks r) w

-- Whatever layers the pile is of, and whatever its bottom, this run of it keeps the law.
abbrev pub LawfulRun : View Event → List (Call Event) → View Event → Type 0
LawfulRun v cs w = (limit : ℕ) (lower : List Rule) (top : Rule) (G : Meaning Event)
    → Piled limit (layers limit lower top G) G v → LawKept limit lower top G cs w

-- v is the pile before, w after it, `old` and `new` the log, and n the answer.
pub record WorkedOff (v : View Event) (orders : List Order) (old : List (Reply Event)) (n : ℕ) (new : List (Reply Event)) (w : View Event) : Type 0 where
  pub count : n ≡ min (length orders) (length old)
  -- the calls, with their answers
  pub calls : List (Call Event)
  pub logged : AreCalls (take n orders) (take n new) calls
  pub run : Run v calls w
  pub law : LawfulRun v calls w
  -- the entries behind them are as they were
  pub rest : drop n new ≡ drop n old

pub record AskedOn (v : View Event) (old new : List (Result Event Standing)) (w : View Event) : Type 0 where
  pub count : length new ≡ length old
  pub run : Run v (map asks new) w
  pub law : LawfulRun v (map asks new) w
