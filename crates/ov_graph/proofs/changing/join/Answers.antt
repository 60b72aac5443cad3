use Rattle.std.proofs.Common.{rules}
use Rattle.ov_graph.proofs.GraphValues.ChangedLinks.{gains_link}
use Rattle.ov_graph.proofs.changing.join.Goals as goal

pub returns-clause-kept : goal.returns-clause-kept
returns-clause-kept c = search rules

pub returns-clause-gains : goal.returns-clause-gains
returns-clause-gains c =
    let p = c.place_in-p.ensures in
    let q = c.place_in-q.ensures in
    gains_link c.args.nodes.now c.args.rows.now c.mark.new.rows c.mark-2.new.rows c.place_in-p.result
    c.place_in-q.result c.args.a c.args.b
    c.requires.kept (returns-clause-kept c) p.below q.below p.there q.there c.mark.ensures c.mark-2.ensures
