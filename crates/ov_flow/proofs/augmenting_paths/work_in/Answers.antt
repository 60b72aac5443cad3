-- The buffers have the room, and hold no path.
use Rattle.ov_split.specs.Places.{net_by_place}
use Rattle.ov_flow.specs.Code.Walked.{table_of}
use Rattle.ov_flow.proofs.Beginning.{flow_none}
use Rattle.ov_flow.proofs.augmenting_paths.work_in.Goals as goal

pub returns-clause-work : goal.returns-clause-work
returns-clause-work g c n fresh = record {
  room = record {
    from = fresh.from;
    next = fresh.next;
    tree = c.tree_in.ensures _ fresh.tree;
    hops = fresh.hops;
    ends = fresh.ends;
  };
  flow = rw fresh.no_end (flow_none (net_by_place n) (table_of c.args.room.from) fresh.no_place);
}
