-- Sorted pairs, of which each is left once.
use Rattle.std.proofs.lemmas.List.Filters.{dedup_is}
use Rattle.ov_dump.proofs.Paired.{in_order, left_once, pair_eq}
use Rattle.ov_dump.proofs.links_of_pairs.ascending.Goals as goal

pub returns-clause-ascend : goal.returns-clause-ascend
returns-clause-ascend c =
    let sorted = c.sort_unstable.new.self.items in
    let new = c.dedup.new.self.items in
    in_order sorted new c.sort_unstable.ensures.sorted (dedup_is pair_eq sorted new c.dedup.ensures.filtered)

pub returns-clause-each : goal.returns-clause-each
returns-clause-each c =
    let sorted = c.sort_unstable.new.self.items in
    let new = c.dedup.new.self.items in
    left_once c.args.pairs.items sorted new c.sort_unstable.ensures.permutation
    (dedup_is pair_eq sorted new c.dedup.ensures.filtered)
