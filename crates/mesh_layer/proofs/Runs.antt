-- Runs with one call more, and orders worked off one by one.
use Rattle.std.proofs.Common.{ℕ, ◌+◌, ◌<◌, List, [], ◌∷◌, ◌++◌, length, take, get_or, slice_set, sym, refl, subst}
use Rattle.std.proofs.lemmas.List.{take_more, take_more_set}
use Rattle.mesh_stream.specs.declared.event.Event.{Event}
use Rattle.mesh_stream.specs.Runs.{View, Call, feeds, closes, asks, Step, Run}
use Rattle.mesh_layer.specs.declared.order.Order.{Order}
use Rattle.mesh_layer.specs.declared.order.Order.TheVariants.{Feed, Close, Next}
use Rattle.mesh_layer.specs.declared.order.Reply.{Reply}
use Rattle.mesh_layer.specs.declared.order.Reply.TheVariants.{Fed, Closed, Gave}
use Rattle.mesh_layer.specs.Orders.{IsCall, AreCalls, Obeyed, LawfulRun}
use Rattle.mesh_layer.proofs.Keeping.{keeps_law}

pub run_push : {I : Type 0} (cs : List (Call I)) (v w u : View I) (c : Call I) → Run v cs w → Step w c u → Run v (cs ++ (c ∷ [])) u
run_push [] v w u c r s = (u, subst (λ (z : View _). Step z c u) r s, refl)
run_push (d ∷ cs) v w u c (x, t, r) s = (x, t, run_push cs x w u c r s)

pub calls_push : (os : List Order) (rs : List (Reply Event)) (cs : List (Call Event)) (o : Order) (r : Reply Event) (c : Call Event)
    → AreCalls os rs cs → IsCall o r c → AreCalls (os ++ (o ∷ [])) (rs ++ (r ∷ [])) (cs ++ (c ∷ []))
calls_push [] [] [] o r c a i = (i, tt)
calls_push [] [] (x ∷ cs) o r c a i = absurd a
calls_push [] (y ∷ rs) cs o r c a i = absurd a
calls_push (z ∷ os) [] cs o r c a i = absurd a
calls_push (z ∷ os) (y ∷ rs) [] o r c a i = absurd a
calls_push (z ∷ os) (y ∷ rs) (x ∷ cs) o r c (j, a) i = (j, calls_push os rs cs o r c a i)

pub lawful_run : (v w : View Event) (cs : List (Call Event)) → Run v cs w → LawfulRun v cs w
lawful_run v w cs r limit lower top G p = keeps_law limit lower top G v p cs w r

-- One entry more of the log.
pub calls_more : (os : List Order) (log : List (Reply Event)) (i : ℕ) (d : Order) (cs : List (Call Event)) (r : Reply Event) (c : Call Event) → i < length os → i < length log
    → AreCalls (take i os) (take i log) cs → IsCall (get_or os i d) r c
    → AreCalls (take (i + 1) os) (take (i + 1) (slice_set log i r)) (cs ++ (c ∷ []))
calls_more os log i d cs r c a b called is =
    subst (λ (z : List Order). AreCalls z (take (i + 1) (slice_set log i r)) (cs ++ (c ∷ []))) (sym (take_more os i d a))
    (subst (λ (z : List (Reply Event)). AreCalls (take i os ++ (get_or os i d ∷ [])) z (cs ++ (c ∷ []))) (sym (take_more_set log i r b))
    (calls_push (take i os) (take i log) cs (get_or os i d) r c called is))

-- An order obeyed is a call.
pub call_of : (v : View Event) (o : Order) (r : Reply Event) (w : View Event) → Obeyed v o r w → (c : Call Event) × IsCall o r c × Step v c w
call_of v (Feed piece) (Fed r) w s = (feeds piece.now r, refl, s)
call_of v (Feed piece) (Closed r) w s = absurd s
call_of v (Feed piece) (Gave r) w s = absurd s
call_of v Close (Fed r) w s = absurd s
call_of v Close (Closed r) w s = (closes r, refl, s)
call_of v Close (Gave r) w s = absurd s
call_of v Next (Fed r) w s = absurd s
call_of v Next (Closed r) w s = absurd s
call_of v Next (Gave r) w s = (asks r, refl, s)
