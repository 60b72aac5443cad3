-- An id of the list is a node.
use Rattle.ov_cert.proofs.EntryOrder.Looping.{has_at}
use Rattle.ov_cert.proofs.side_judging.way_out.Goals as goal

pub way_out_of-requires : goal.way_out_of-requires
way_out_of-requires c = c.requires c.id-item.result (has_at c.args.ids.now c.loop-id.id-index c.id-item.result
    c.loop-id-test.true c.id-item.is)
