use Rattle.ov_dump.proofs.Pairs.{fresh_in, inserted_in}
use Rattle.ov_dump.proofs.pair_set.PairSet.insert.Goals as goal

pub returns-clause-fresh : goal.returns-clause-fresh
returns-clause-fresh c =
    fresh_in c.self.inside.pairs.keys c.args.self.now c.as_str.result c.as_str-2.result c.args.from.now c.args.to.now
    c.in_ok-insert.field-0 c.self.view_is c.as_str.ensures c.as_str-2.ensures c.in_ok-insert.ensures.added

pub returns-clause-pairs : goal.returns-clause-pairs
returns-clause-pairs c =
    inserted_in c.self.inside.pairs.keys c.insert.new.self.keys c.args.self.now c.as_str.result c.as_str-2.result
    c.args.from.now c.args.to.now c.self.view_is c.as_str.ensures c.as_str-2.ensures
    c.in_ok-insert.ensures.updates.0
