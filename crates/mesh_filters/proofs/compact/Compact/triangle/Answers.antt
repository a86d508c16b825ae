use Rattle.std.proofs.Common.{ℕ, Option, ap, ◌∙◌}
use Rattle.mesh_stream.specs.declared.event.Event.TheVariants.{Triangle}
use Rattle.mesh_judge.specs.Windows.{Window}
use Rattle.mesh_judge.specs.Judging.{window_of}
use Rattle.mesh_windows.specs.Windowing.{remembers}
use Rattle.mesh_windows.specs.Working.{compact_work}
use Rattle.mesh_filters.specs.Compacting.{memory_of, listed}
use Rattle.mesh_filters.proofs.Handing.{not_handed}
use Rattle.mesh_filters.proofs.Marking.{noted_a, noted_b, noted_c, triangle_marks, triangle_hands}
use Rattle.mesh_filters.proofs.compact.Compact.triangle.Goals as goal

pub returns-in_err-corners : goal.returns-in_err-corners
returns-in_err-corners c =
    let e = Triangle c.args.place c.args.a c.args.b c.args.c in
    not_handed compact_work _ _ c.args.self.now.given e listed _ _ (c.in_err-corners.ensures c.args.place) c.from_residual.ensures.1

pub number-first-requires : goal.number-first-requires
number-first-requires c =
    let t = c.in_ok-corners.ensures in
    noted_a c.args.self.now.judge c.triangle.new.self c.args.self.now.given c.args.a c.args.b c.args.c c.in_ok-corners.corners
    (t.0 c.args.place).window t.1

pub number-second-requires : goal.number-second-requires
number-second-requires c =
    let t = c.in_ok-corners.ensures in
    noted_b c.args.self.now.judge c.triangle.new.self c.args.self.now.given c.args.a c.args.b c.args.c c.in_ok-corners.corners
    (t.0 c.args.place).window t.1
    (memory_of c.number-first.new.self) c.number-first.ensures.marked.memory

pub number-third-requires : goal.number-third-requires
number-third-requires c =
    let t = c.in_ok-corners.ensures in
    noted_c c.args.self.now.judge c.triangle.new.self c.args.self.now.given c.args.a c.args.b c.args.c c.in_ok-corners.corners
    (t.0 c.args.place).window t.1
    (memory_of c.number-first.new.self) c.number-first.ensures.marked.memory
    (memory_of c.number-second.new.self) c.number-second.ensures.marked.memory

pub returns : goal.returns
returns c =
    let t = c.in_ok-corners.ensures.0 c.args.place in
    let m = memory_of c.args.self.now in
    let m1 = remembers (window_of c.triangle.new.self) c.args.self.now.given in
    let m2 = memory_of c.number-first.new.self in
    let m3 = memory_of c.number-second.new.self in
    let m4 = memory_of c.number-third.new.self in
    let e = ap (λ (u : Window (Option ℕ)). remembers u c.args.self.now.given) t.window in
    let x = c.number-first.result in
    let y = c.number-second.result in
    let z = c.number-third.result in
    let f = c.number-first.ensures in
    let g = c.number-second.ensures in
    let h = c.number-third.ensures in
    record {
      accepted = t.by_window;
      limit = h.limit ∙ g.limit ∙ f.limit ∙ t.limit;
      memory = triangle_marks m m1 m2 m3 m4 c.args.place c.args.a c.args.b c.args.c x y z e f.marked g.marked h.marked;
      handed = triangle_hands m m1 m2 m3 m4 c.args.place c.args.a c.args.b c.args.c x y z e f.marked g.marked h.marked;
    }
