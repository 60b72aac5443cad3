-- Fewer than `fewest` nodes split no members, and so many do: so two members are not linked, and the level above
-- `fewest` is one of the graph.
use Rattle.std.proofs.Common.{◌∙◌, ◌+◌, arith}
use Rattle.ov_even.proofs.AnalysisSteps.Bounding.{known_deciding, known_bounds, known_search}
use Rattle.ov_even.proofs.AnalysisSteps.Tries.{one_left}
use Rattle.ov_even.proofs.level_bounds.LevelBounds.known.Goals as goal

pub overflow_add-fewest : goal.overflow_add-fewest
overflow_add-fewest c =
    let has = known_deciding c.args.graph.now c.args.group.now (c.args.fewest + 1) c.nodes.ensures.graph
    c.nodes.ensures.within c.requires.number.group c.requires.number.splits in
    let below = (known_bounds c.args.graph.now c.args.group.now c.args.fewest has c.requires.number.holds
    c.requires.number.splits).below in
    let within = c.nodes.ensures.within in
    omega (arith, below, within)

pub between-requires-clause-deciding : goal.between-requires-clause-deciding
between-requires-clause-deciding c =
    known_deciding c.args.graph.now c.args.group.now (c.args.fewest + 1) c.nodes.ensures.graph c.nodes.ensures.within
    c.requires.number.group c.requires.number.splits

pub between-requires-clause-bounds : goal.between-requires-clause-bounds
between-requires-clause-bounds c =
    let has = known_deciding c.args.graph.now c.args.group.now (c.args.fewest + 1) c.nodes.ensures.graph
    c.nodes.ensures.within c.requires.number.group c.requires.number.splits in
    known_bounds c.args.graph.now c.args.group.now c.args.fewest has c.requires.number.holds c.requires.number.splits

pub returns-clause-search : goal.returns-clause-search
returns-clause-search c =
    let next = c.between.ensures.next in
    let above = next.above in
    let most = next.most in
    known_search c.between.result.search c.args.graph.now c.args.group.now c.args.fewest c.between.ensures.graph
    c.between.ensures.members (omega (arith, above, most)) (c.between.ensures.left ∙ one_left c.args.fewest)
