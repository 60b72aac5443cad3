-- One member more, and all.
use Rattle.std.proofs.Common.{◌∙◌, ◌+◌, ap, drop, sym}
use Rattle.json.specs.Json.{member}
use Rattle.json.specs.Value.{members_view, value_view}
use Rattle.ov_dump.proofs.Viewing.{next_member, no_member_left, reads_all, reads_more}
use Rattle.ov_dump.proofs.views_reading.read_members.Goals as goal

pub loop-place-preserved : goal.loop-place-preserved
loop-place-preserved c =
    let all = c.args.members.now in
    let i = c.loop-place.place in
    let next = c.index-members-place.result in
    let first = next_member all i next c.loop-place-test.true
    ∙ ap (λ w. member w.0.now (value_view w.1) (members_view (drop (i + 1) all))) (sym c.index-members-place.is) in
    let before = c.loop-place.parts in
    let after = c.add_view.new.parts in
    let adds = c.in_ok-add_view.ensures in
    reads_more (members_view all) (i + 1) before.entries.items after.entries.items before.listings.items
    after.listings.items (members_view (drop i all)) (members_view (drop (i + 1) all)) next.0.now (value_view next.1)
    adds.listings.0 c.loop-place.invariant first adds.listings.1 adds.entry adds.listings.2

pub returns-clause-dump : goal.returns-clause-dump
returns-clause-dump c =
    let all = c.args.members.now in
    let i = c.loop-place.place in
    reads_all (members_view all) (i + 1) c.loop-place.parts.entries.items c.loop-place.parts.listings.items
    (members_view (drop i all)) c.loop-place.invariant (no_member_left all i c.loop-place-test.false)
