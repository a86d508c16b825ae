-- A stage that takes no text and has one outcome, at the end of which it ended, keeps the law of a stage.
use Rattle.std.proofs.Common.{sym, append-nil}
use Rattle.std.specs.Prelude.{List, [], refl}
use Rattle.mesh_stream.specs.declared.stage.Standing.TheVariants.{Ended}
use Rattle.mesh_stream.specs.Meaning.{outcome, textless, Lawful}

pub ended_lawful : {I : Type 0} (items : List I) → Lawful textless (λ t m. outcome items Ended)
ended_lawful items = record {
  grows = λ t u m. ([], sym (append-nil items));
  settles = λ t w. w;
  settled = λ n t m. refl;
  shut_fixed = λ e t m. refl;
}
