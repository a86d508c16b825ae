use Rattle.std.proofs.Common.{ap, refl, ◌∙◌}
use Rattle.mesh_stream.specs.Meaning.{closed}
use Rattle.mesh_rules.specs.Piling.{checks, through}
use Rattle.mesh_edges.specs.ShownEdges.{edge_text}
use Rattle.mesh_edges.specs.Bordering.{bordered}
use Rattle.mesh_listing.proofs.Printing.{same_listing}
use Rattle.border.proofs.print_border.Goals as goal

pub returns-clause-listed : goal.returns-clause-listed
returns-clause-listed g c =
    same_listing edge_text _ _ _ _ _ (λ t.
    let checked = c.check.ensures.by_rule t closed ∙ ap (through 1024 checks) (c.new.ensures.means t closed) in
    c.border_list-border.ensures.by_definition t closed ∙ ap (bordered 1024 4096) checked)
    (c.in_ok-list_text.ensures.listed edge_text (λ e. refl))
