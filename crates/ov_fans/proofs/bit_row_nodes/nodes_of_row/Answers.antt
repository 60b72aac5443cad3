-- Each set bit is one more node.
use Rattle.std.proofs.Common.{◌∙◌, ◌<◌, ◌+◌, ℕ, List, ◌++◌, ap, drop, length, sym, subst, arith}
use Rattle.ov_graph.specs.Row.{picked}
use Rattle.ov_fans.specs.Code.Kept.{AreBitsOfNodes}
use Rattle.ov_fans.proofs.PieceNets.Ranks.{read_at}
use Rattle.ov_fans.proofs.RowScans.Listing.{found_more, found_all}
use Rattle.ov_fans.proofs.bit_row_nodes.nodes_of_row.Goals as goal

pub loop-place-preserved : goal.loop-place-preserved
loop-place-preserved g c =
    let nodes = c.nodes-nodes.result.now in
    let row = c.args.row.now in
    let e = c.nodes-nodes.ensures.nodes in
    let kept : AreBitsOfNodes nodes row = subst (λ (ns : List ℕ). AreBitsOfNodes ns row) (sym e) c.requires.row in
    let first = c.in-Some.ensures.some in
    let place = c.in-Some.place in
    let below : place < length nodes = kept place first.set in
    record {
      within = omega (arith, below);
      found =
          ap (λ (t : List ℕ). t ++ picked row (place + 1) (drop (place + 1) nodes)) c.in_ok-push.ensures.items
          ∙ found_more row nodes c.loop-place.found.items c.loop-place.next place c.index-nodes-place.result first below
          (read_at nodes place c.index-nodes-place.result below c.index-nodes-place.is) c.loop-place.invariant.found;
    }

pub returns : goal.returns
returns g c =
    let nodes = c.nodes-nodes.result.now in
    let row = c.args.row.now in
    let e = c.nodes-nodes.ensures.nodes in
    let kept : AreBitsOfNodes nodes row = subst (λ (ns : List ℕ). AreBitsOfNodes ns row) (sym e) c.requires.row in
    c.new.ensures
    ∙ found_all row nodes c.loop-place.found.items c.loop-place.next c.words_for-words.result kept
    c.words_for-words.ensures.words
    c.in_default.ensures.none c.loop-place.invariant.found
    ∙ ap (λ (ns : List ℕ). picked row 0 ns) e
