use Rattle.std.proofs.Common.{ap, ◌∙◌}
use Rattle.ov_net.specs.Code.WorldGraph.{opening_graph}
use Rattle.ov_net.proofs.Journal.Resting.{same_begun}
use Rattle.ov_net.proofs.Keeping.{keeps_begun}
use Rattle.ov_net.proofs.Standing.{stands_new}
use Rattle.ov_net.proofs.world.World.new.Goals as goal

pub invariant_of-result : goal.invariant_of-result
invariant_of-result c = (
  stands_new c.args.params c.new.result c.new-2.result.items c.new-3.result.items c.new.ensures c.new-2.ensures.items
      c.new-3.ensures.items,
  keeps_begun c.args.params c.new-3.result.items c.opening.result c.new-3.ensures.items
      (c.opening.ensures ∙ ap opening_graph c.scale.ensures),
  same_begun c.new-3.result.items c.new-3.ensures.items,
)
