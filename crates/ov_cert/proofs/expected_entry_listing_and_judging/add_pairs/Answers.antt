-- The pairs of one more member.
use Rattle.std.proofs.Common.{◌∙◌, ◌+◌, List, take, drop, ap}
use Rattle.ov_cert.specs.declared.expected_entry_with_place_and_fault.Expected.{Expected}
use Rattle.ov_cert.specs.Code.Tests.{pairs_after}
use Rattle.ov_cert.proofs.EntryOrder.Listed.{with_pairs, column_added}
use Rattle.ov_cert.proofs.expected_entry_listing_and_judging.add_pairs.Goals as goal

pub loop-place-preserved : goal.loop-place-preserved
loop-place-preserved c =
    let g = c.args.graph.now in
    let first = c.args.first.now in
    let p = c.loop-place.place in
    let later = pairs_after g (take (p + 1) first) (drop (p + 1) first) in
    ap (λ (es : List Expected). with_pairs es later) c.in_ok-add_pairs_of.ensures
    ∙ column_added g c.loop-place.entries.items first p c.index-first-place.result c.loop-place-test.true
    c.index-first-place.is
    ∙ c.loop-place.invariant
