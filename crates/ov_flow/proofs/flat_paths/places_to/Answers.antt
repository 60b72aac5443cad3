-- A place before a place of the table is a place of the table.
use Rattle.std.proofs.Common.{◌∙◌, sym}
use Rattle.ov_flow.proofs.flat_paths.places_to.Goals as goal

pub loop-step-preserved : goal.loop-step-preserved
loop-step-preserved c = c.requires.table.told c.loop-step.at c.in-Some.before (sym c.get.ensures ∙ c.in-Some.is)
