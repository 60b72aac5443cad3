-- A later member is a node.
use Rattle.std.proofs.Common.{subst}
use Rattle.ov_ids.specs.Members.{Has}
use Rattle.ov_cert.proofs.EntryOrder.Looping.{later_member, has_at}
use Rattle.ov_cert.proofs.entry_judging.check_fans.Goals as goal

pub fan_flaw-requires-clause-j : goal.fan_flaw-requires-clause-j
fan_flaw-requires-clause-j c =
    let j = c.index-later-place.result in
    let at = has_at c.later_members-later.result.now c.loop-place.place j c.loop-place-test.true
    c.index-later-place.is in
    c.requires.nodes j (later_member c.args.group.now c.args.k j
    (subst (λ xs. Has xs j) c.later_members-later.ensures at))
