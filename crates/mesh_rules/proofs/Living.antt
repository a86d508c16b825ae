-- A vertex is live if it is introduced and not finalized.
use Rattle.std.proofs.Common.{◌≡◌, ℕ, true, false, not, List, ap, ◌∙◌}
use Rattle.std.proofs.lemmas.Bool.{not-true}
use Rattle.mesh_stream.specs.declared.event.Event.{Event}
use Rattle.mesh_stream.specs.Lists.{has}
use Rattle.mesh_stream.specs.Events.{introduced, finalized}
use Rattle.mesh_stream.specs.Live.{is_live}
use Rattle.mesh_rules.proofs.Having.{has_kept, has_kept_passes}

pub live_not_final : (es : List Event) (n : ℕ) → is_live es n ≡ true → has n (finalized es) ≡ false
live_not_final es n h = not-true (has n (finalized es)) (has_kept_passes (λ m. not (has m (finalized es))) n (introduced es) h)

pub live_from : (es : List Event) (n : ℕ) → has n (introduced es) ≡ true → has n (finalized es) ≡ false → is_live es n ≡ true
live_from es n i f = has_kept (λ m. not (has m (finalized es))) n (ap not f) (introduced es) ∙ i
