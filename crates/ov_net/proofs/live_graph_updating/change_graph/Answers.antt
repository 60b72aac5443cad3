use Rattle.std.proofs.Common.{sym, subst}
use Rattle.ov_ids.specs.Members.{Has}
use Rattle.ov_ids.proofs.Members.{has_place}
use Rattle.ov_net.proofs.Links.Changing.{changed_more, fits_each, live_kept, small_kept}
use Rattle.ov_net.proofs.live_graph_updating.change_graph.Goals as goal

pub change_once-requires-clause-fits : goal.change_once-requires-clause-fits
change_once-requires-clause-fits c =
    let changes = c.args.changes.now in
    let change = c.change-item.result in
    fits_each c.args.nodes.now changes change c.requires.fit
    (subst (Has changes) (sym c.change-item.is)
    (has_place changes c.loop-change.change-index change c.loop-change-test.true))

pub loop-change-preserved : goal.loop-change-preserved
loop-change-preserved c =
    let members = c.args.nodes.now in
    let changes = c.args.changes.now in
    let change = c.change-item.result in
    let fits = fits_each members changes change c.requires.fit
    (subst (Has changes) (sym c.change-item.is)
    (has_place changes c.loop-change.change-index change c.loop-change-test.true)) in
    let i = c.loop-change.invariant in
    let once = c.change_once.ensures in
    record {
      graph = once.graph;
      small = small_kept members change c.loop-change.graph c.change_once.new.graph once.change i.small;
      live = live_kept members change c.loop-change.graph c.change_once.new.graph once.change fits
          i.live;
      left = λ h rest. i.left h (changed_more members changes change c.loop-change.change-index
          c.loop-change.graph c.change_once.new.graph h c.loop-change-test.true c.change-item.is once.graph
          once.change rest);
    }
