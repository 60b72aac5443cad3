-- One node more.
use Rattle.std.proofs.Common.{◌≤◌, length, sym, arith}
use Rattle.ov_net.proofs.Steps.LiveIds.{live_all, live_ids, live_more}
use Rattle.ov_net.proofs.nodes.live_by_birth.Goals as goal

pub loop-place-preserved : goal.loop-place-preserved
loop-place-preserved c =
    live_more c.args.members.now.entries c.loop-place.place (c.in-Some.id.now, c.in-Some.member.now)
    c.loop-place.ids.items c.add_if_live.new.ids.items (sym c.in-Some.ensures.entry)
    c.in_ok-add_if_live-in-Some.ensures c.loop-place.invariant

pub returns : goal.returns
returns c =
    let es = c.args.members.now.entries in
    let ids = c.loop-place.ids.items in
    let all = c.len-place-end.ensures.len in
    let stop = c.loop-place-test.false in
    let end : length es ≤ c.loop-place.place = omega (arith, all, stop) in
    live_ids es ids c.len-place-end.ensures.unique (live_all es c.loop-place.place ids end c.loop-place.invariant)
