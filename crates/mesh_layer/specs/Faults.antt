-- The fault of a layer that refuses an event.
use Rattle.std.specs.Prelude.{Ok, Err, Result}
use Rattle.mesh_stream.specs.declared.event.Event.{Event}
use Rattle.mesh_stream.specs.declared.fault.Cause.{Cause}
use Rattle.mesh_stream.specs.declared.fault.Fault.{Fault}
use Rattle.mesh_stream.specs.declared.fault.LayerName.{LayerName}
use Rattle.mesh_stream.specs.Events.{place_of}

-- What is made of an event that is judged so, or the fault of the layer that refuses it.
abbrev pub or_fault : {H : Type 0} → Result H Cause → LayerName → Event → Result H Fault
or_fault (Ok h) layer e = Ok h
or_fault (Err c) layer e = Err (record { layer = layer; cause = c; place = place_of e })
