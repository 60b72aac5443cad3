-- Level 0 has no pieces, and the first bound on the tries is low.
use Rattle.std.proofs.Common.{rules}
use Rattle.ov_even.proofs.AnalysisSteps.Tries.{begun_few}
use Rattle.ov_even.proofs.level_bounds.LevelBounds.new.Goals as goal

pub returns-clause-few : goal.returns-clause-few
returns-clause-few c = search (rules, begun_few)
