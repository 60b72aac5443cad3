-- The bits that the row of the member shares with that of the members before it.
use Rattle.std.proofs.Common.{ℕ, List, length, subst}
use Rattle.ov_graph.specs.Links.{LinkGraph}
use Rattle.ov_graph.specs.Row.{AreWordsFor}
use Rattle.ov_fans.specs.Pieces.{member_at}
use Rattle.ov_fans.proofs.PieceCuts.Short.{link_bits, earlier_number}
use Rattle.ov_fans.proofs.short_paths.earlier_neighbours.Goals as goal

pub returns-clause-number : goal.returns-clause-number
returns-clause-number g c =
    let g = c.args.group.now.graph in
    let q = c.args.group.now.members in
    let a = member_at q c.args.j in
    let source = c.place_in_graph-source.result in
    let at = c.place_in_graph-source.ensures in
    let own = c.graph-graph.ensures in
    let row = c.neighbour_set-set.result in
    earlier_number g q a source row c.row.result.now c.bits_below-before.result c.words_for.result c.shared_bits.result
    own.is_graph
    (subst (λ (x : LinkGraph). AreWordsFor (length x.nodes) c.words_for.result) own.graph
    (subst (λ (ns : List ℕ). AreWordsFor (length ns) c.words_for.result) c.nodes.ensures.nodes
    c.words_for.ensures.words))
    at.below at.there (link_bits g c.graph-graph.result.now a source row own.graph at.there
    c.neighbour_set-set.ensures.set)
    c.row.ensures.row c.bits_below-before.ensures c.shared_bits.ensures
