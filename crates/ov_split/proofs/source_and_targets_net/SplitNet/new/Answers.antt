-- What is kept is the net that is asked for.
use Rattle.std.proofs.Common.{ℕ, List, ap}
use Rattle.ov_graph.specs.Paths.{node_at}
use Rattle.ov_graph.specs.Row.{picked}
use Rattle.ov_split.specs.SplitNetState.{SplitNetState}
use Rattle.ov_split.proofs.ByNames.Rows.{net_of, kept_of, one_picked}
use Rattle.ov_split.proofs.source_and_targets_net.SplitNet.new.Goals as goal

pub returns-clause-net : goal.returns-clause-net
returns-clause-net g c =
    let graph = c.args.graph.now in
    let row = c.row_of-avoided.result in
    let of : List ℕ → SplitNetState = λ avoided. record {
      graph = graph;
      avoided = avoided;
      source = node_at graph c.args.source;
      targets = picked c.args.targets 0 graph.nodes;
    } in
    let kept = kept_of graph row c.args.source c.args.targets c.args.avoided c.nodes.ensures.graph c.requires.source
    c.requires.avoided c.requires.targets c.row_of-avoided.ensures in
    ap of (one_picked graph row c.args.avoided c.nodes.ensures.graph kept.avoided_below c.row_of-avoided.ensures)

pub returns-clause-is_net : goal.returns-clause-is_net
returns-clause-is_net g c =
    let row = c.row_of-avoided.result in
    net_of c.args.graph.now row c.args.source c.args.targets
    (kept_of c.args.graph.now row c.args.source c.args.targets c.args.avoided c.nodes.ensures.graph c.requires.source
    c.requires.avoided c.requires.targets c.row_of-avoided.ensures)
