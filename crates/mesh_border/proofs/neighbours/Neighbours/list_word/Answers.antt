use Rattle.std.proofs.Common.{◌+◌, ◌*◌, ◌<◌, ◌≤◌, ℕ, ◌∙◌, sym, inl, inr, ap, arith, rules, w64, length}
use Rattle.std.specs.Int.{trailing_zeros}
use Rattle.std.proofs.lemmas.Bool.{cases_eq}
use Rattle.std.proofs.lemmas.List.{length-set}
use Rattle.mesh_border.specs.Rows.{vertex_of}
use Rattle.mesh_border.proofs.Rows.{lowest_taken, few_before, listed_before, listed_now}
use Rattle.mesh_border.proofs.neighbours.Neighbours.list_word.Goals as goal

pub bounds-into-count : goal.bounds-into-count
bounds-into-count c =
    let low = lowest_taken c.loop-left.left (omega arith) (search rules) in
    let few = few_before (c.args.k * 64) c.loop-left.count c.loop-left.left _ low.was c.loop-left.invariant.taken in
    omega (arith, low.inside)

pub loop-left-smaller-in-Some : goal.loop-left-smaller-in-Some
loop-left-smaller-in-Some c = (lowest_taken c.loop-left.left (omega arith) (search rules)).less

pub loop-left-smaller : goal.loop-left-smaller
loop-left-smaller c = (lowest_taken c.loop-left.left (omega arith) (search rules)).less

pub loop-left-preserved-in-Some : goal.loop-left-preserved-in-Some
loop-left-preserved-in-Some c =
    let inv = c.loop-left.invariant in
    let lowest : ℕ = trailing_zeros w64 c.loop-left.left in
    let low = lowest_taken c.loop-left.left (omega arith) (search rules) in
    let few : c.loop-left.count ≤ c.args.k * 64 + lowest =
    few_before (c.args.k * 64) c.loop-left.count c.loop-left.left lowest low.was inv.taken in
    let room : c.loop-left.count < length c.loop-left.into = omega (arith, low.inside) in
    let before = listed_before c.loop-left.into c.loop-left.count c.in-Some.vertex room in
    record {
      long = length-set c.loop-left.into c.loop-left.count c.in-Some.vertex ∙ inv.long;
      few = omega (arith, low.inside);
      taken = λ i lt. low.none_below i (omega arith);
      kept = λ v h. before v (inv.kept v h);
      listed = λ bit v small set gone is.
          elim (cases_eq bit lowest) [
            | inr ne ↦ before v (inv.listed bit v small set (λ still. gone (low.others bit small ne ∙ still)) is)
            | inl here ↦
                let e = ap (λ b. vertex_of c.args.self.now (c.args.k * 64 + b)) here in
                listed_now c.loop-left.into c.loop-left.count c.in-Some.vertex room v (cc (e, is, c.in-Some.is))
          ];
    }

pub loop-left-preserved : goal.loop-left-preserved
loop-left-preserved c =
    let inv = c.loop-left.invariant in
    let lowest : ℕ = trailing_zeros w64 c.loop-left.left in
    let low = lowest_taken c.loop-left.left (omega arith) (search rules) in
    let few : c.loop-left.count ≤ c.args.k * 64 + lowest =
    few_before (c.args.k * 64) c.loop-left.count c.loop-left.left lowest low.was inv.taken in
    record {
      long = inv.long;
      few = inv.few;
      taken = λ i lt. low.none_below i (omega arith);
      kept = inv.kept;
      listed = λ bit v small set gone is.
          elim (cases_eq bit lowest) [
            | inr ne ↦ inv.listed bit v small set (λ still. gone (low.others bit small ne ∙ still)) is
            | inl here ↦ absurd (c.in_default.not-Some v (ap (λ b. vertex_of c.args.self.now (c.args.k * 64 + b)) (sym here) ∙ is))
          ];
    }
