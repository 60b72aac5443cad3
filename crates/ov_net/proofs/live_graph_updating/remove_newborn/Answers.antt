use Rattle.std.proofs.Common.{sym, ◌∙◌}
use Rattle.ov_net.proofs.Links.Changing.{taken_back}
use Rattle.ov_net.proofs.live_graph_updating.remove_newborn.Goals as goal

pub returns-in-Some : goal.returns-in-Some
returns-in-Some c =
    taken_back _ c.in-Some.node c.args.graph.now c.remove_node.new.self (sym c.newborn_of.ensures ∙ c.in-Some.is)
    c.remove_node.ensures.node c.remove_node.ensures.graph
