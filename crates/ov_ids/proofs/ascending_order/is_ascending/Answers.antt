-- The test of order agrees with the relation.
use Rattle.ov_ids.proofs.Rising.{ascends_tested}
use Rattle.ov_ids.proofs.ascending_order.is_ascending.Goals as goal

pub returns-clause-set : goal.returns-clause-set
returns-clause-set c = ascends_tested c.args.ids.now c.rises.result c.rises.ensures
