-- What each filter makes of all that may still come from below.
use Rattle.std.specs.Prelude.{Bool, Option}
use Rattle.mesh_stream.specs.declared.event.Event.{Event}
use Rattle.mesh_stream.specs.declared.event.Point.{Point}
use Rattle.mesh_stream.specs.declared.fault.LayerName.TheVariants.{Check as Checking, Clean as Cleaning, Clip as Clipping, Compact as Compacting, Renumber as Renumbering}
use Rattle.mesh_stream.specs.Meaning.{Outcome}
use Rattle.mesh_layer.specs.Filtering.{Filtering}
use Rattle.mesh_windows.specs.Working.{check_work, clean_work, clip_work, compact_work, renumber_work}
use Rattle.mesh_filters.specs.declared.check.Check.{Check}
use Rattle.mesh_filters.specs.declared.clean.Clean.{Clean}
use Rattle.mesh_filters.specs.declared.clip.Clip.{Clip}
use Rattle.mesh_filters.specs.declared.compact.Compact.{Compact}
use Rattle.mesh_filters.specs.declared.compact.brought.Brought.{Brought}
use Rattle.mesh_filters.specs.declared.renumber.Renumber.{Renumber}
use Rattle.mesh_filters.specs.Handing.{events_of, means, means_filters}
use Rattle.mesh_filters.specs.Compacting.{listed}

abbrev pub check_makes : Check → Option Event → Outcome Event → Outcome Event
check_makes f rest = means Checking check_work f.judge 0 (events_of rest)

pub check_filters : (f : Check) (rest : Option Event) → Filtering (check_makes f rest)
check_filters f rest = means_filters Checking check_work f.judge 0 (events_of rest)

abbrev pub clean_makes : Clean → Option Event → Outcome Event → Outcome Event
clean_makes f rest = means Cleaning clean_work f.judge 0 (events_of rest)

pub clean_filters : (f : Clean) (rest : Option Event) → Filtering (clean_makes f rest)
clean_filters f rest = means_filters Cleaning clean_work f.judge 0 (events_of rest)

-- `inside` says of a region and a point whether it lies inside.
abbrev pub clip_makes : {R : Type 0} → (R → Point → Bool) → Clip R → Option Event → Outcome Event → Outcome Event
clip_makes inside f rest = means Clipping (clip_work (inside f.region)) f.judge 0 (events_of rest)

pub clip_filters : {R : Type 0} (inside : R → Point → Bool) (f : Clip R) (rest : Option Event) → Filtering (clip_makes inside f rest)
clip_filters inside f rest = means_filters Clipping (clip_work (inside f.region)) f.judge 0 (events_of rest)

abbrev pub compact_makes : Compact → Brought → Outcome Event → Outcome Event
compact_makes f rest = means Compacting compact_work f.judge f.given (listed rest)

pub compact_filters : (f : Compact) (rest : Brought) → Filtering (compact_makes f rest)
compact_filters f rest = means_filters Compacting compact_work f.judge f.given (listed rest)

abbrev pub renumber_makes : Renumber → Option Event → Outcome Event → Outcome Event
renumber_makes f rest = means Renumbering renumber_work f.judge f.given (events_of rest)

pub renumber_filters : (f : Renumber) (rest : Option Event) → Filtering (renumber_makes f rest)
renumber_filters f rest = means_filters Renumbering renumber_work f.judge f.given (events_of rest)
