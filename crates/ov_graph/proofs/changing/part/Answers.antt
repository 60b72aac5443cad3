use Rattle.std.proofs.Common.{rules}
use Rattle.ov_graph.proofs.GraphValues.ChangedLinks.{loses_link}
use Rattle.ov_graph.proofs.changing.part.Goals as goal

pub returns-clause-kept : goal.returns-clause-kept
returns-clause-kept c = search rules

pub returns-clause-loses : goal.returns-clause-loses
returns-clause-loses c =
    let p = c.place_in-p.ensures in
    let q = c.place_in-q.ensures in
    loses_link c.args.nodes.now c.args.rows.now c.unmark.new.rows c.unmark-2.new.rows c.place_in-p.result
    c.place_in-q.result c.args.a c.args.b
    c.requires.kept (returns-clause-kept c) p.below q.below p.there q.there c.unmark.ensures c.unmark-2.ensures
