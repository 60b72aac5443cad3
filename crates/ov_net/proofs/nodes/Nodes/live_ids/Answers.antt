-- The ids, sorted.
use Rattle.std.proofs.Common.{◌↔◌, nat_eq, subst}
use Rattle.std.proofs.lemmas.List.Filters.{dedup_is}
use Rattle.ov_ids.specs.Members.{Has}
use Rattle.ov_net.specs.Code.LinkChanges.{IsLive}
use Rattle.ov_net.proofs.Steps.LiveIds.{ids_ascend, ids_stay}
use Rattle.ov_net.proofs.nodes.Nodes.live_ids.Goals as goal

pub returns-clause-ascend : goal.returns-clause-ascend
returns-clause-ascend c =
    let sorted = c.sort_unstable.new.self.items in
    let new = c.dedup.new.self.items in
    ids_ascend sorted new c.sort_unstable.ensures.sorted (dedup_is nat_eq sorted new c.dedup.ensures.filtered)

pub returns-clause-each : goal.returns-clause-each
returns-clause-each c a =
    let ids = c.in_ok-ids.ids.items in
    let sorted = c.sort_unstable.new.self.items in
    let new = c.dedup.new.self.items in
    let same = ids_stay ids sorted new c.sort_unstable.ensures.permutation
    (dedup_is nat_eq sorted new c.dedup.ensures.filtered) a in
    let live = subst (λ m. Has ids a ↔ IsLive m a) c.self.view_is
    (c.in_ok-ids.ensures a) in
    ((λ h. live.0 (same.0 h)), (λ l. same.1 (live.1 l)))
