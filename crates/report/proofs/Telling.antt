-- What a report on a text will say while the text is read, whatever type its stage has.
use Rattle.std.proofs.Common.{ℕ, List, [], ◌++◌, Option, Some, None, IfSome, ◌∙◌, subst}
use Rattle.std.specs.Io.KnownBytes.{Consumes, IsAtEnd}
use Rattle.mesh_stream.specs.declared.event.Event.{Event}
use Rattle.mesh_stream.specs.Meaning.{Meaning, Outcome}
use Rattle.mesh_report.specs.declared.report.Report.{Report}
use Rattle.mesh_report.specs.declared.stream_report.StreamReport.{StreamReport}
use Rattle.mesh_report.specs.Streaming.{WillSay, Finished}

module _ {S : Type 0} (means : S → Meaning Event) (says : List ℕ → Outcome Event) where
  -- With this left to read of the text, it will say what the whole text means.
  abbrev pub Told : Option (List ℕ) → Option (List ℕ) → StreamReport S → Type 0
  Told None left x = Unit {0}
  Told (Some text) None x = ⊥
  Told (Some text) (Some rest) x = WillSay means x rest (says text)

  pub begun : (known : Option (List ℕ)) (x : StreamReport S) → ((t : List ℕ) → WillSay means x t (says t)) → Told known known x
  begun None x w = tt
  begun (Some text) x w = w text

  pub pushed : (known left next : Option (List ℕ)) (bs : List ℕ) (x y : StreamReport S) → Told known left x → Consumes left next bs
      → ((t : List ℕ) (o : Outcome Event) → WillSay means x (bs ++ t) o → WillSay means y t o) → Told known next y
  pushed None left next bs x y told e push = tt
  pushed (Some text) None next bs x y told e push = absurd told
  pushed (Some text) (Some rest) None bs x y told e push = absurd e
  pushed (Some text) (Some rest) (Some more) bs x y told e push =
      push more _ (subst (λ (z : List ℕ). WillSay means x z (says text)) e told)

  pub told_end : (known left next : Option (List ℕ)) (x : StreamReport S) (r : Report) → Told known left x → Consumes left next [] → IsAtEnd next
      → ((o : Outcome Event) → WillSay means x [] o → Finished r o) → IfSome known (λ text. Finished r (says text))
  told_end None left next x r told e end finish = tt
  told_end (Some text) None next x r told e end finish = absurd told
  told_end (Some text) (Some rest) None x r told e end finish = absurd e
  told_end (Some text) (Some rest) (Some more) x r told e end finish =
      finish _ (subst (λ (z : List ℕ). WillSay means x z (says text)) (e ∙ end) told)
