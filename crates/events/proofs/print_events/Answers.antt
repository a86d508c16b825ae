use Rattle.std.proofs.Common.{refl}
use Rattle.mesh_stream.specs.Meaning.{closed}
use Rattle.mesh_stream.specs.Shown.{event_text}
use Rattle.mesh_listing.proofs.Printing.{same_listing}
use Rattle.events.proofs.print_events.Goals as goal

pub returns-clause-listed : goal.returns-clause-listed
returns-clause-listed g c =
    same_listing event_text _ _ _ _ _ (λ t. c.new-reader.ensures.means t closed) (c.in_ok-list_text.ensures.listed event_text (λ e. refl))
