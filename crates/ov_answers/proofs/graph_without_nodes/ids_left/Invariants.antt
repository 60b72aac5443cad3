-- The ids that are left so far, and those that are still to come.
use Rattle.std.proofs.Common.{◌≡◌, ◌++◌, drop}
use Rattle.ov_answers.specs.Code.Left.{ids_left}
use Rattle.ov_answers.proofs.graph_without_nodes.ids_left.Given as goal

abbrev pub invariant-loop-id : goal.invariant-loop-id
invariant-loop-id l = l.left.items ++ ids_left l.gone (drop l.id-index l.ids) ≡ ids_left l.gone l.ids
