-- A fan has a target outside a cut of few nodes.
use Rattle.std.proofs.Common.{ℕ, sym, subst, arith, rules}
use Rattle.ov_ids.specs.Members.{Has}
use Rattle.ov_graph.specs.Links.{LinkGraph}
use Rattle.ov_graph.specs.Row.{picked}
use Rattle.ov_fans.specs.Pieces.{member_at}
use Rattle.ov_fans.specs.Code.Kept.{AreBitsOfNodes, IsLowestOutside}
use Rattle.ov_fans.proofs.PieceNets.Aimed.{below_picked}
use Rattle.ov_fans.proofs.RowScans.Outside.{fan_left, fan_far}
use Rattle.ov_fans.proofs.member_beyond_cut.far_of.Goals as goal

pub lowest_outside-requires : goal.lowest_outside-requires
lowest_outside-requires g c =
    let graph = c.args.group.now.graph in
    let q = c.args.group.now.members in
    let cut = c.args.cut.now in
    let row = c.bits_below-before.result in
    let own = c.row.ensures in
    let at = c.place_in_graph.ensures in
    let same = below_picked graph q (member_at q c.in-Fan.j) c.place_in_graph.result c.row.result.now row own.is_graph
    own.group own.row at.below at.there c.bits_below-before.ensures in (
      omega arith,
      (
        subst (λ (h : LinkGraph). AreBitsOfNodes h.nodes row) (sym c.graph.ensures.graph)
            (λ p h. ((own.row p).0 ((c.bits_below-before.ensures p).0 h).1).0),
        (
          search rules,
          subst (λ (h : LinkGraph). ¬ ((t : ℕ) → Has (picked row 0 h.nodes) t → Has (picked cut 0 h.nodes) t))
              (sym c.graph.ensures.graph)
              (fan_left graph q c.args.piece c.in-Fan.level c.in-Fan.j (picked cut 0 graph.nodes)
              (picked row 0 graph.nodes) c.in-Fan.is own.group c.requires.piece c.requires.cut c.requires.few same),
        ),
      ),
    )

pub returns-in-Fan : goal.returns-in-Fan
returns-in-Fan g c =
    let g = c.args.group.now.graph in
    let q = c.args.group.now.members in
    let cut = c.args.cut.now in
    let row = c.bits_below-before.result in
    let own = c.row.ensures in
    let same = below_picked g q (member_at q c.in-Fan.j) c.place_in_graph.result c.row.result.now row own.is_graph
    own.group own.row c.place_in_graph.ensures.below c.place_in_graph.ensures.there c.bits_below-before.ensures in
    fan_far q c.args.piece c.in-Fan.level c.in-Fan.j (picked cut 0 g.nodes) (picked row 0 g.nodes)
    c.lowest_outside.result c.in-Fan.is same
    (subst (λ (h : LinkGraph). IsLowestOutside (picked cut 0 h.nodes) (picked row 0 h.nodes) c.lowest_outside.result)
    c.graph.ensures.graph c.lowest_outside.ensures)
