-- No haul is kept, and the pieces for the first members are good.
use Rattle.ov_even.proofs.AnalysisSteps.Bounding.{known_kept, known_first}
use Rattle.ov_even.proofs.level_search.LevelSearch.known.Goals as goal

pub invariant_of-result : goal.invariant_of-result
invariant_of-result c = (
  known_kept c.known.result c.new.result.items c.args.graph.now c.args.group.now c.args.fewest c.known.ensures.search
      c.known.ensures.low c.new.ensures.items c.known.ensures.good,
  known_first c.known.result.search c.args.graph.now c.args.group.now c.args.fewest c.args.unsplit
      c.known.ensures.search c.nodes.ensures.graph c.requires.number.group c.requires.within c.requires.unsplit,
)
