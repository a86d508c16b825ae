-- How events, faults, standings and refusals are shown.
use Rattle.std.specs.Prelude.{ℕ, List, ◌++◌, codes, decimal}
use Rattle.std.specs.Fmt.{signed_decimal}
use Rattle.mesh_stream.specs.declared.event.Event.{Event}
use Rattle.mesh_stream.specs.declared.event.Event.TheVariants.{Vertex, Triangle, Finalization}
use Rattle.mesh_stream.specs.declared.fault.Fault.{Fault}
use Rattle.mesh_stream.specs.declared.fault.Refusal.{Refusal}
use Rattle.mesh_stream.specs.declared.stage.Standing.{Standing}
use Rattle.mesh_stream.specs.declared.stage.Standing.TheVariants.{Waiting, Ended, Faulty}
use Rattle.mesh_stream.specs.Numbers.{cause_number, refusal_number, layer_word}

-- `v NUMBER X Y Z @PLACE`, `f A B C @PLACE` and `x VERTEX @PLACE`
abbrev pub event_text : Event → List ℕ
event_text (Vertex p n at) =
    codes "v " ++ (decimal n ++ (codes " " ++ (signed_decimal at.x ++ (codes " " ++ (signed_decimal at.y ++ (codes " " ++ (signed_decimal at.z ++ (codes " @" ++ decimal p))))))))
event_text (Triangle p a b c) = codes "f " ++ (decimal a ++ (codes " " ++ (decimal b ++ (codes " " ++ (decimal c ++ (codes " @" ++ decimal p))))))
event_text (Finalization p i) = codes "x " ++ (decimal i ++ (codes " @" ++ decimal p))

-- `fault LAYER CAUSE PLACE`
abbrev pub fault_text : Fault → List ℕ
fault_text f = codes "fault " ++ (layer_word f.layer ++ (codes " " ++ (decimal (cause_number f.cause) ++ (codes " " ++ decimal f.place))))

abbrev pub standing_text : Standing → List ℕ
standing_text Waiting = codes "waiting"
standing_text Ended = codes "ended"
standing_text (Faulty f) = fault_text f

-- `refused NUMBER`
abbrev pub refusal_text : Refusal → List ℕ
refusal_text r = codes "refused " ++ decimal (refusal_number r)
