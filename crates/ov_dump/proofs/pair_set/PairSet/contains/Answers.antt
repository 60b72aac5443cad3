use Rattle.ov_dump.proofs.Pairs.{found_in}
use Rattle.ov_dump.proofs.pair_set.PairSet.contains.Goals as goal

pub returns : goal.returns
returns c =
    found_in c.self.inside.pairs.keys c.args.self.now c.as_str.result c.as_str-2.result c.args.from.now c.args.to.now
    c.contains.result c.self.view_is c.as_str.ensures c.as_str-2.ensures c.contains.ensures
