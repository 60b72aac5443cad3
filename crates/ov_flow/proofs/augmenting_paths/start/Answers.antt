-- The tables have room as before, and hold no path.
use Rattle.std.proofs.Common.{◌∙◌, arith}
use Rattle.ov_split.specs.Places.{net_by_place}
use Rattle.ov_flow.specs.Code.Walked.{table_of}
use Rattle.ov_flow.proofs.Beginning.{flow_none}
use Rattle.ov_flow.proofs.augmenting_paths.start.Goals as goal

pub returns-clause-work : goal.returns-clause-work
returns-clause-work g c = record {
  room = record {
    from = c.clear.ensures.long ∙ c.requires.from;
    next = c.requires.next;
    tree = c.requires.tree;
    hops = c.requires.hops;
    ends = let kept = c.clear-2.ensures.capacity in let room = c.requires.ends in omega (arith, kept, room);
  };
  flow = rw c.clear-2.ensures.items
      (flow_none (net_by_place c.args.net.now) (table_of c.clear.new.self) c.clear.ensures.empty);
}
