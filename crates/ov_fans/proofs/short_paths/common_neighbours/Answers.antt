-- The bits that the rows of the two members share.
use Rattle.std.proofs.Common.{ℕ, List, length, subst}
use Rattle.ov_graph.specs.Links.{LinkGraph}
use Rattle.ov_graph.specs.Row.{AreWordsFor}
use Rattle.ov_fans.specs.Pieces.{member_at}
use Rattle.ov_fans.proofs.PieceCuts.Short.{link_bits, common_number}
use Rattle.ov_fans.proofs.short_paths.common_neighbours.Goals as goal

pub returns-clause-number : goal.returns-clause-number
returns-clause-number g c =
    let g = c.args.group.now.graph in
    let a = member_at c.args.group.now.members c.args.i in
    let b = member_at c.args.group.now.members c.args.j in
    let h = c.graph-graph.result.now in
    let own = c.graph-graph.ensures in
    let row = c.neighbour_set-set.result in
    let other = c.neighbour_set-other.result in
    common_number g a b row other c.words_for.result c.shared_bits.result own.is_graph
    (subst (λ (x : LinkGraph). AreWordsFor (length x.nodes) c.words_for.result) own.graph
    (subst (λ (ns : List ℕ). AreWordsFor (length ns) c.words_for.result) c.nodes.ensures.nodes
    c.words_for.ensures.words))
    (link_bits g h a c.place_in_graph.result row own.graph c.place_in_graph.ensures.there
    c.neighbour_set-set.ensures.set)
    (link_bits g h b c.place_in_graph-2.result other own.graph c.place_in_graph-2.ensures.there
    c.neighbour_set-other.ensures.set)
    c.shared_bits.ensures
