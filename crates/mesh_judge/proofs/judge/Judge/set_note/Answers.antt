use Rattle.std.proofs.Common.{refl}
use Rattle.mesh_judge.proofs.Judging.{renoted_stray, Resets, resets, renoted_judge}
use Rattle.mesh_judge.proofs.judge.Judge.set_note.Goals as goal

changed : (g : _) (c : goal.After-change g)
    → Resets c.args.self.now.live c.change.new.self c.args.number c.in-Some.vertex
    (record { place = c.in-Some.vertex.place; at = c.in-Some.vertex.at; note = c.args.note }) c.change.result
changed g c =
    resets _ _ c.args.number c.vertex.result c.in-Some.vertex _ c.change.result
    c.vertex.ensures.key c.in-Some.ensures c.change.ensures

pub invariant_of-self : goal.invariant_of-self
invariant_of-self g c =
    let j = c.args.self.now in
    let s = changed g c in
    record {
      sound = renoted_stray j.live c.change.new.self j.highest j.sound c.args.number c.in-Some.vertex c.args.note s.found s.sets;
      numbers = j.numbers;
      few = j.few;
    }

pub returns-in-Some : goal.returns-in-Some
returns-in-Some g c = renoted_judge c.args.self.now _ c.args.number c.in-Some.vertex c.args.note c.change.result (changed g c.before) refl refl
