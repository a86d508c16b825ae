use Rattle.std.proofs.Common.{◌+◌, take, drop, sym, ap, ◌∙◌}
use Rattle.std.proofs.lemmas.List.{drop-drop}
use Rattle.std.proofs.lemmas.Slice.{between_is}
use Rattle.mesh_reader.proofs.kept.Kept.consume.Goals as goal

pub returns : goal.returns
returns c =
    let k = c.self.inside in
    let n = c.args.n in
    between_is k.bytes (k.start + n) k.end ∙ sym (drop-drop n k.start (take k.end k.bytes)) ∙ ap (drop n) (sym (between_is k.bytes k.start k.end) ∙ c.self.view_is)
