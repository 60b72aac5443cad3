-- The first bit that is set in the one row and not in the other.
use Rattle.std.proofs.Common.{◌≡◌, ◌∙◌, ◌<◌, ℕ, List, length, slice_index, ap, sym, subst}
use Rattle.ov_graph.specs.Row.{picked, AreWordsFor}
use Rattle.ov_graph.specs.Paths.{node_at}
use Rattle.ov_fans.specs.Code.Kept.{IsLowestOutside}
use Rattle.ov_fans.proofs.RowScans.Outside.{lowest_picked, none_outside}
use Rattle.ov_fans.proofs.PieceNets.Ranks.{read_at}
use Rattle.ov_fans.proofs.member_beyond_cut.lowest_outside.Goals as goal

pub unreachable-requires : goal.unreachable-requires
unreachable-requires g c =
    c.requires.some (none_outside c.args.graph.now c.args.row.now c.args.other.now c.without.result
    c.words_for-words.result c.nodes-nodes.ensures.graph
    (subst (λ (ns : List ℕ). AreWordsFor (length ns) c.words_for-words.result) c.nodes-nodes.ensures.nodes
    c.words_for-words.ensures.words) c.without.ensures
    c.in-None.ensures.none)

pub returns : goal.returns
returns g c =
    let g = c.args.graph.now in
    let row = c.args.row.now in
    let other = c.args.other.now in
    let p = c.in-Some.place in
    let first = c.in-Some.ensures.some in
    let same = c.nodes-nodes.ensures.nodes in
    let below : p < length g.nodes = c.requires.row p ((c.without.ensures p).0 first.set).1 in
    let e : c.index-nodes-place.result ≡ node_at g p =
    read_at c.nodes-nodes.result.now p c.index-nodes-place.result
    (subst (λ (ns : List ℕ). p < length ns) (sym same) below) c.index-nodes-place.is
    ∙ ap (λ (ns : List ℕ). slice_index ns p) same in
    subst (λ (x : ℕ). IsLowestOutside (picked other 0 g.nodes) (picked row 0 g.nodes) x) (sym e)
    (lowest_picked g row other c.without.result c.words_for-words.result p c.nodes-nodes.ensures.graph c.requires.row
    (subst (λ (ns : List ℕ). AreWordsFor (length ns) c.words_for-words.result) same c.words_for-words.ensures.words)
    c.without.ensures first)
