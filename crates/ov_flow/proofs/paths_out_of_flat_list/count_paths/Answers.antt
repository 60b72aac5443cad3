-- Each place of the source ends a path.
use Rattle.std.proofs.Common.{ap, length, arith}
use Rattle.ov_flow.proofs.FlatPaths.{in_flat, count_source, count_other, all_counted}
use Rattle.ov_flow.proofs.paths_out_of_flat_list.count_paths.Goals as goal
use Rattle.ov_flow.proofs.paths_out_of_flat_list.count_paths.Goals.{then-place-source, else-place-source}

pub loop-place-init : goal.loop-place-init
loop-place-init c =
    let e = ap length (in_flat c.args.flat.now c.source_in-source.result c.source_in-source.ensures) in
    record { fits = omega arith; left = omega (arith, e) }

pub loop-place-preserved : goal.loop-place-preserved
loop-place-preserved c =
    let s = c.source_in-source.result in
    let flat = c.args.flat.now in
    let i = c.loop-place.place-index in
    let fits = c.loop-place.invariant.fits in
    let left = c.loop-place.invariant.left in
    elim c.if-place-source.branch [
      | then-place-source w ↦
          let e = count_source s flat i 0 c.loop-place-test.true w.if-place-source.true in
          let n = w.count-is in
          record { fits = omega (arith, fits, n); left = omega (arith, left, e, n) }
      | else-place-source w ↦
          let e = count_other s flat i 0 c.loop-place-test.true w.if-place-source.false in
          let n = w.count-is in
          record { fits = omega (arith, fits, n); left = omega (arith, left, e, n) }
    ]

pub returns : goal.returns
returns c =
    let left = c.loop-place.invariant.left in
    let none = all_counted c.source_in-source.result c.args.flat.now c.loop-place.place-index c.loop-place-test.false in
    omega (arith, left, none)
