-- Each end is a place of the table.
use Rattle.ov_ids.proofs.Members.{has_place}
use Rattle.ov_flow.proofs.flat_paths.used.Goals as goal

pub places_to-count-requires-clause-end : goal.places_to-count-requires-clause-end
places_to-count-requires-clause-end c =
    c.requires.ends _ (has_place c.args.ends.now c.loop-end.end-index 0 c.loop-end-test.true)
