-- The rows that a search leaves are those of a parting.
use Rattle.std.proofs.Common.{◌∙◌, ◌≤◌, ◌*◌, ℕ, length, sym, ap, subst, arith}
use Rattle.ov_graph.specs.Links.{LinkGraph}
use Rattle.ov_graph.specs.Row.{picked, word_bits}
use Rattle.ov_fans.specs.Code.Kept.{AreBitsOfNodes}
use Rattle.ov_fans.specs.Pieces.{member_at}
use Rattle.ov_fans.specs.Cuts.{IsParted}
use Rattle.ov_fans.specs.declared.piece_result.Parting.{Parting}
use Rattle.ov_fans.proofs.PieceNets.Settling.{cut_found, parted_of, full_in, source_at}
use Rattle.ov_fans.proofs.settler_of_width.parting.Goals as goal

pub nodes_of_row-requires : goal.nodes_of_row-requires
nodes_of_row-requires g c =
    let m = c.args.group.now in
    let s = c.args.rows.now in
    let e = c.graph-graph.ensures in
    let f = full_in m.graph m.members c.args.piece c.args.held s e.is_graph c.requires.full in (
      omega arith,
      (
        subst (λ (h : LinkGraph). AreBitsOfNodes h.nodes s.cut) (sym e.graph) f.cut_places,
        subst (λ (h : LinkGraph). length h.nodes ≤ word_bits * g.row.W) (sym e.graph) e.room,
      ),
    )

pub nodes_of_row-requires-2 : goal.nodes_of_row-requires-2
nodes_of_row-requires-2 g c =
    let m = c.args.group.now in
    let s = c.args.rows.now in
    let e = c.graph-graph.ensures in
    let f = full_in m.graph m.members c.args.piece c.args.held s e.is_graph c.requires.full in (
      omega arith,
      (
        subst (λ (h : LinkGraph). AreBitsOfNodes h.nodes s.side) (sym e.graph) f.side_places,
        subst (λ (h : LinkGraph). length h.nodes ≤ word_bits * g.row.W) (sym e.graph) e.room,
      ),
    )

pub far_of-requires : goal.far_of-requires
far_of-requires g c =
    let m = c.args.group.now in
    let s = c.args.rows.now in
    let e = c.graph-graph.ensures in
    let f = full_in m.graph m.members c.args.piece c.args.held s e.is_graph c.requires.full in
    let found = cut_found m.graph m.members c.args.piece c.args.held (picked s.cut 0 m.graph.nodes)
    (picked s.side 0 m.graph.nodes) e.is_graph e.group c.requires.piece f.full c.requires.few in
    (omega arith, (omega arith, (c.requires.piece, (found.0, found.1))))

pub returns : goal.returns
returns g c =
    let m = c.args.group.now in
    let s = c.args.rows.now in
    let f = full_in m.graph m.members c.args.piece c.args.held s c.graph-graph.ensures.is_graph c.requires.full in
    let e = c.graph-graph.ensures in
    subst (λ (p : Parting). IsParted m.graph m.members c.args.piece p) (sym c.in_ok-new.ensures.ok)
    (parted_of m.graph m.members c.args.piece c.args.held (picked s.cut 0 m.graph.nodes) (picked s.side 0 m.graph.nodes)
    (record { cut = c.in_ok-cut.cut; near = c.member.result; far = c.far_of.result; side = c.in_ok-side.side })
    e.is_graph e.group c.requires.piece f.full c.requires.few
    (c.in_ok-cut.ensures ∙ ap (λ (g : LinkGraph). picked s.cut 0 g.nodes) e.graph)
    (c.member.ensures ∙ ap (λ (i : ℕ). member_at m.members i) c.source.ensures ∙ source_at m.members c.args.piece)
    c.far_of.ensures
    (c.in_ok-side.ensures ∙ ap (λ (g : LinkGraph). picked s.side 0 g.nodes) e.graph))
