use Rattle.std.proofs.Common.{◌∙◌, arith, Fits-lit}
use mir.Facts.{Fits-lt}
use Rattle.mesh_reader.proofs.Magnitudes.{digit_to, value_more, more_fits, digit_read}
use Rattle.mesh_reader.proofs.scan.Rest.digits.Goals as goal

pub overflow_mul-value : goal.overflow_mul-value
overflow_mul-value c =
    let m = more_fits c.loop.value c.loop.counter 0 c.args.most c.loop.invariant.1 c.loop-test.true c.requires (omega arith) in
    Fits-lt {n = 1000000000} (omega arith) (Fits-lit tt)

pub overflow_add-value : goal.overflow_add-value
overflow_add-value c =
    let e = c.in-Some.ensures in
    let to = digit_to c.in-Some.digit e.0 in
    let is = c.from.ensures in
    Fits-lt {n = 1000000000} (more_fits c.loop.value c.loop.counter c.from.result c.args.most c.loop.invariant.1 c.loop-test.true c.requires (omega arith)) (Fits-lit tt)

pub loop-preserved : goal.loop-preserved
loop-preserved c =
    let e = c.in-Some.ensures in
    let to = digit_to c.in-Some.digit e.0 in
    let is = c.from.ensures in (
      digit_read c.loop.counter c.args.most c.loop.value c.from.result c.in-Some.digit _ _ c.loop-test.true e.0 c.from.ensures e.1 ∙ c.loop.invariant.0,
      value_more c.loop.value c.loop.counter c.from.result c.loop.invariant.1 (omega arith),
    )
