-- The ids, sorted, of which each is left once.
use Rattle.std.proofs.Common.{nat_eq}
use Rattle.std.proofs.lemmas.List.Filters.{dedup_is}
use Rattle.ov_scatter.proofs.Sorted.{in_order, same_members}
use Rattle.ov_scatter.proofs.ids_in_copy.put_in_order.Goals as goal

pub returns-clause-ascend : goal.returns-clause-ascend
returns-clause-ascend c =
    let sorted = c.sort_unstable.new.self.items in
    let new = c.dedup.new.self.items in
    in_order sorted new c.sort_unstable.ensures.sorted (dedup_is nat_eq sorted new c.dedup.ensures.filtered)

pub returns-clause-each : goal.returns-clause-each
returns-clause-each c i =
    let sorted = c.sort_unstable.new.self.items in
    let new = c.dedup.new.self.items in
    same_members c.args.ids.now.items sorted new c.sort_unstable.ensures.permutation
    (dedup_is nat_eq sorted new c.dedup.ensures.filtered) i
