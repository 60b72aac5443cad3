use Rattle.std.proofs.Common.{◌<◌, ◌*◌, inl, inr, arith}
use Rattle.ov_graph.specs.Code.Shifts.{HasClosed}
use Rattle.ov_graph.proofs.BitRows.Bits.{no_row}
use Rattle.ov_graph.proofs.BitRows.Marked.{more_changed, rest_unchanged, all_changed}
use Rattle.ov_graph.proofs.changing.close_all.Goals as goal

pub loop-place-preserved : goal.loop-place-preserved
loop-place-preserved c =
    let rows = c.args.rows.now in
    let now = c.loop-place.rows in
    let place = c.loop-place.place in
    let row = c.closed.result in
    let i = c.loop-place.invariant in
    let l = c.loop-place-test.true in
    let e = c.loop-place.auto.rows in
    record {
      before = more_changed rows now place row (λ t s. (s < 64 * c.args.words) × HasClosed t c.args.p s)
          (omega (arith, l, e)) c.closed.ensures i.before i.rest;
      rest = rest_unchanged rows now place row i.rest;
    }

pub returns-clause-bits : goal.returns-clause-bits
returns-clause-bits c =
    let p = c.args.p in
    let i = c.loop-place.invariant in
    let end = c.loop-place-test.false in
    all_changed c.args.rows.now c.loop-place.rows (λ t s. (s < 64 * c.args.words) × HasClosed t p s)
    c.loop-place.auto.rows
    (λ s h. elim h.1 [ inl k ↦ no_row s k.1 | inr k ↦ no_row _ k.1 ]) (λ r s l. i.before r s (omega (arith, l, end)))
