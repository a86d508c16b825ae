use Rattle.std.proofs.Common.{ℕ, [], ◌∷◌, ◌++◌, sym, ap, ◌∙◌}
use Rattle.mesh_report.specs.Spelling.{spelled}
use Rattle.mesh_report.proofs.Digits.{spelled_one, spelled_more}
use Rattle.mesh_report.proofs.Joining.{behind, same_bytes}
use Rattle.mesh_report.proofs.spelling.number.+spell_number.Goals as goal

pub returns-then-front-eq0 : goal.returns-then-front-eq0
returns-then-front-eq0 t c =
    same_bytes (ap (λ (d : ℕ). d ∷ []) c.last_digit.ensures ∙ sym (spelled_one c.args.n (sym c.tens-front.ensures ∙ c.if-front-eq0.true))) c.spell_byte.ensures

pub returns : goal.returns
returns t c =
    let more = spelled_more c.args.n (λ z. c.if-front-eq0.false (c.tens-front.ensures ∙ z)) in
    let two = behind _ _ _ _ _ _ _ c.spell_number-at.ensures c.spell_byte-2.ensures in
    same_bytes ((λ i. spelled (c.tens-front.ensures i) ++ (c.last_digit-2.ensures i ∷ [])) ∙ sym more) two
