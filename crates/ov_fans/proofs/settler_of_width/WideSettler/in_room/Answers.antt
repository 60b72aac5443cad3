-- The first net has no targets.
use Rattle.std.proofs.Common.{◌≤◌, ◌*◌, length, sym, subst, arith, rules}
use Rattle.ov_graph.specs.Links.{LinkGraph}
use Rattle.ov_graph.specs.Row.{word_bits}
use Rattle.ov_graph.proofs.BitRows.Bits.{no_bits}
use Rattle.ov_fans.proofs.settler_of_width.WideSettler.in_room.Goals as goal

pub new-net-requires : goal.new-net-requires
new-net-requires g c =
    let fits = subst (λ (graph : LinkGraph). length graph.nodes ≤ word_bits * g.row.W) (sym c.graph.ensures.graph)
    c.graph.ensures.room in (
      omega arith,
      (omega arith, (fits, (search rules, (search rules, λ p h. absurd (no_bits g.row.W p h))))),
    )
