-- The pairs of one member after another.
use Rattle.std.proofs.Common.{◌∙◌, ℕ, List, [], sym, ap, subst}
use Rattle.ov_ids.specs.Members.{Has, Ascends}
use Rattle.ov_ids.proofs.Members.{has_from_take}
use Rattle.ov_cert.specs.Code.Tests.{pairs_after, pairs_fault}
use Rattle.ov_cert.proofs.EntryOrder.Columns.{ascends_take}
use Rattle.ov_cert.proofs.EntryOrder.Looping.{has_at, earlier_differ, column, column_fault}
use Rattle.ov_cert.proofs.entry_judging.check_pairs.Goals as goal

pub check_pairs_of-requires-clause-earlier : goal.check_pairs_of-requires-clause-earlier
check_pairs_of-requires-clause-earlier c = λ i h.
    let first = c.first_members-first.result.now in
    let up : Ascends first = subst Ascends (sym c.first_members-first.ensures)
    (ascends_take c.args.k c.args.group.now c.requires.ascends) in (
      c.requires.nodes i (has_from_take c.args.group.now c.args.k i
          (subst (λ (xs : List ℕ). Has xs i) c.first_members-first.ensures
          (has_from_take first c.loop-place.place i h))),
      earlier_differ first c.loop-place.place i c.index-first-place.result up c.loop-place-test.true
          c.index-first-place.is h,
    )

pub check_pairs_of-requires-clause-j : goal.check_pairs_of-requires-clause-j
check_pairs_of-requires-clause-j c =
    let j = c.index-first-place.result in
    let at = has_at c.first_members-first.result.now c.loop-place.place j c.loop-place-test.true
    c.index-first-place.is in
    c.requires.nodes j (has_from_take c.args.group.now c.args.k j
    (subst (λ (xs : List ℕ). Has xs j) c.first_members-first.ensures at))

pub returns-in-Err : goal.returns-in-Err
returns-in-Err c =
    let first = c.first_members-first.result.now in
    let g = c.args.graph.now in
    ap (λ (xs : List ℕ). pairs_fault g c.args.k c.args.entries.now 0 (pairs_after g [] xs))
    (sym c.first_members-first.ensures) ∙ sym c.loop-place.invariant.left
    ∙ column_fault g c.args.k c.args.entries.now c.loop-place.count c.loop-place.place c.index-first-place.result first
    c.in-Err.fault c.loop-place-test.true c.index-first-place.is c.in-Err.ensures

pub loop-place-preserved : goal.loop-place-preserved
loop-place-preserved c =
    let first = c.first_members-first.result.now in
    let r = column c.args.graph.now c.args.k c.args.entries.now c.loop-place.count c.in-Ok.next c.loop-place.place
    c.index-first-place.result first c.loop-place-test.true c.index-first-place.is c.in-Ok.ensures.0
    c.in-Ok.ensures.1 in
    record { left = r.0 ∙ c.loop-place.invariant.left; count = r.1 ∙ c.loop-place.invariant.count }
