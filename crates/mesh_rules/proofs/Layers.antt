-- What each layer makes of an accepted list is accepted and no wider, leaves no vertex live if the list leaves none,
-- and goes on as the list does.
use Rattle.std.proofs.Common.{◌≡◌, ℕ, List, [], ◌++◌, sym, refl, subst}
use Rattle.std.specs.List.{AllByRecursion as All}
use Rattle.mesh_stream.specs.declared.event.Event.{Event}
use Rattle.mesh_stream.specs.Events.{introduced}
use Rattle.mesh_stream.specs.Live.{live}
use Rattle.mesh_stream.specs.Meaning.{Begins}
use Rattle.mesh_judge.specs.Accepting.{refusal, Accepted, AcceptedAfter}
use Rattle.mesh_rules.specs.Piling.{Rule, checks, cleans, clips, compacts, renumbers, rewritten}
use Rattle.mesh_rules.specs.RuleLaws.{RewritingLaws}
use Rattle.mesh_rules.proofs.Bounding.{never_wider}
use Rattle.mesh_rules.proofs.Beginnings.{accepted_parts}
use Rattle.mesh_rules.proofs.Thinning.{clean_accepted, clean_none_live, clip_accepted, clip_none_live}
use Rattle.mesh_rules.proofs.Numbering.{loosely, renumbered_accepted, renumbered_none_live}
use Rattle.mesh_rules.proofs.Compacting.{compacted_accepted, compacted_none_live}
use Rattle.mesh_rules.proofs.Naming.{Known, all_known}
use Rattle.mesh_rules.proofs.Continuing.{cleaned_begins, clipped_begins}
use Rattle.mesh_rules.proofs.Prefixes.{renumbered_begins, compacted_begins}

pub rewritten_accepted : (r : Rule) (limit : ℕ) (es : List Event) → Accepted (refusal limit) es → Accepted (refusal limit) (rewritten r es)
rewritten_accepted checks limit es h = h
rewritten_accepted cleans limit es h = clean_accepted limit es h
rewritten_accepted (clips inside) limit es h = clip_accepted limit inside es h
rewritten_accepted compacts limit es h = compacted_accepted limit es h
rewritten_accepted renumbers limit es h = renumbered_accepted limit es h

pub rewritten_none_live : (r : Rule) (limit : ℕ) (es : List Event) → Accepted (refusal limit) es → live es ≡ [] → live (rewritten r es) ≡ []
rewritten_none_live checks limit es h e = e
rewritten_none_live cleans limit es h e = clean_none_live es e
rewritten_none_live (clips inside) limit es h e = clip_none_live inside es e
rewritten_none_live compacts limit es h e = compacted_none_live limit es h e
rewritten_none_live renumbers limit es h e = renumbered_none_live es e

pub rewritten_begins : (r : Rule) (limit : ℕ) (xs ys : List Event) → Accepted (refusal limit) (xs ++ ys)
    → Begins (rewritten r xs) (rewritten r (xs ++ ys))
rewritten_begins r limit xs ys h = at r (accepted_parts (refusal limit) xs ys [] h)
  where
    known : Accepted (refusal limit) xs → All (Known (introduced xs)) xs
    known ok = all_known limit xs (loosely limit xs ok)

    at : (r : Rule) → Accepted (refusal limit) xs × AcceptedAfter (refusal limit) xs ys → Begins (rewritten r xs) (rewritten r (xs ++ ys))
    at checks (ok, more) = (ys, refl)
    at cleans (ok, more) = cleaned_begins xs ys (known ok)
    at (clips inside) (ok, more) = clipped_begins xs ys (known ok) inside
    at compacts (ok, more) = compacted_begins limit xs ys ok more
    at renumbers (ok, more) = renumbered_begins limit xs ys ok

pub rewriting_laws : (limit : ℕ) (r : Rule) (es : List Event) → Accepted (refusal limit) es → RewritingLaws limit r es
rewriting_laws limit r es h = record {
  stays_accepted = rewritten_accepted r limit es h;
  no_wider = never_wider (rewritten r) limit es (λ k. rewritten_accepted r k es) h;
  none_live = rewritten_none_live r limit es h;
  begins = λ xs ys e.
      let b = rewritten_begins r limit xs ys (subst (Accepted (refusal limit)) e h) in
      subst (λ (z : List Event). Begins (rewritten r xs) (rewritten r z)) (sym e) b;
}
