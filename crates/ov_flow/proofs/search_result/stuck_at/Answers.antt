-- The boundary of a search that found no path is the nearest least cut.
use Rattle.std.proofs.Common.{length}
use Rattle.ov_graph.specs.Row.{picked}
use Rattle.ov_split.specs.Places.{net_by_place}
use Rattle.ov_flow.specs.Code.Walked.{table_of}
use Rattle.ov_flow.proofs.Ending.{stuck_full, cut_within, side_within}
use Rattle.ov_flow.proofs.Rows.{bits_of_picked}
use Rattle.ov_flow.proofs.search_result.stuck_at.Goals as goal

pub returns : goal.returns
returns g c =
    let w = c.args.work.now in
    let n = c.args.net.now in
    let m = net_by_place n in
    let wide = length n.graph.nodes in
    let ready = c.requires.ready.placed in
    let enough = c.words-words.ensures.words.enough in
    let from = table_of w.from in
    let words = c.words-words.result in
    let off = c.avoided.result.now in
    let next = c.without-next.result in
    let cut = c.without.result in
    let at = c.requires.end in
    let places = c.avoided.ensures.places in
    record {
      cut = picked cut 0 n.graph.nodes;
      side = picked w.tree.reached 0 n.graph.nodes;
      full = stuck_full n words c.avoided.ensures.net ready enough from w.ends.items w.tree off next cut
          c.requires.work.flow at.grown at.swept places c.without-next.ensures c.without.ensures;
      cut_row = bits_of_picked n.graph cut c.avoided.ensures.net.graph (cut_within m wide words ready enough from w.tree
          off next cut at.grown at.swept places c.without-next.ensures c.without.ensures);
      side_row = bits_of_picked n.graph w.tree.reached c.avoided.ensures.net.graph (side_within m wide words ready
          enough from w.tree off next cut at.grown at.swept places c.without-next.ensures c.without.ensures);
    }
