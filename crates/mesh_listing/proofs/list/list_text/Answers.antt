use Rattle.mesh_listing.proofs.Printing.{whole_listed}
use Rattle.mesh_listing.proofs.list.list_text.Goals as goal

pub returns-in-Whole-clause-listed : goal.returns-in-Whole-clause-listed
returns-in-Whole-clause-listed g c = λ shown shows.
    whole_listed shown _ _ _ _ _ c.in-Whole.is (c.in_ok-list_until_end.ensures.listed shown shows)
