-- The links that are left so far, and those that are still to come.
use Rattle.std.proofs.Common.{◌≡◌, ◌++◌}
use Rattle.ov_answers.specs.Code.Left.{links_left}
use Rattle.ov_answers.proofs.graph_without_nodes.links_left.Given as goal

abbrev pub invariant-loop-from : goal.invariant-loop-from
invariant-loop-from l = l.left.items ++ links_left l.gone l.from-iterator ≡ links_left l.gone l.graph.links
