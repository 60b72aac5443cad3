-- The search takes the hauls of a level's workers. It is a search of the same graph and group.
use Rattle.std.proofs.Common.{ℕ, List, length, sym, ap, subst, arith}
use Rattle.ov_graph.specs.Links.{LinkGraph}
use Rattle.ov_even.specs.Hauls.{AreRight, SufficeKeeping}
use Rattle.ov_even.specs.Levels.{AreFirstDone, AreNumbersBehind}
use Rattle.ov_even.specs.Searching.{IsSearched}
use Rattle.ov_even.proofs.AnalysisSteps.Narrowing.{members_few}
use Rattle.ov_crew.proofs.Gathering.{range_of}
use Rattle.ov_crew.proofs.analysis_by_threads.search.Goals as goal

pub level_numbers-numbers-requires-clause-members : goal.level_numbers-numbers-requires-clause-members
level_numbers-numbers-requires-clause-members g c =
    let few = members_few c.args.graph.now c.args.group.now c.requires.group in
    omega (arith, few, ap length c.nodes.ensures.nodes)

pub level_numbers-numbers-requires-clause-done : goal.level_numbers-numbers-requires-clause-done
level_numbers-numbers-requires-clause-done g c =
    let few = c.done-done.ensures.few in
    omega (arith, few, ap length c.loop-levels.invariant.members)

pub try_level-requires-clause-range : goal.try_level-requires-clause-range
try_level-requires-clause-range g c κs within =
    let m = length c.args.group.now in
    let level = c.level-level.result in
    let done = c.done-done.result in
    let r = c.level_numbers-numbers.result in
    let e = c.level_numbers-numbers.ensures in
    range_of c.args.graph.now c.args.group.now done level r.first r.size
    (subst (λ (nodes : List ℕ). AreNumbersBehind (length nodes) m done level r.first r.size) c.nodes.ensures.nodes
    e.numbers) e.small

pub take-requires-clause-right : goal.take-requires-clause-right
take-requires-clause-right g c =
    let i = c.loop-levels.invariant in
    let hauls = c.in_ok-hauls.hauls.items in
    let right = c.in_ok-hauls.ensures.right in
    let of_graph = subst (λ (x : LinkGraph). AreRight x c.args.group.now hauls) (sym i.graph) right in
    subst (λ (q : List ℕ). AreRight c.loop-levels.levels.search.graph q hauls) (sym i.members) of_graph

pub take-requires-clause-tried : goal.take-requires-clause-tried
take-requires-clause-tried g c =
    let i = c.loop-levels.invariant in
    let m = length c.args.group.now in
    let hauls = c.in_ok-hauls.hauls.items in
    let level = c.level-level.result in
    let done = c.done-done.result in
    let r = c.level_numbers-numbers.result in
    let numbers = subst (λ (nodes : List ℕ). AreNumbersBehind (length nodes) m done level r.first r.size)
    c.nodes.ensures.nodes c.level_numbers-numbers.ensures.numbers in
    let first = c.done-done.ensures in
    let known : AreFirstDone c.keeping-keeping.result c.args.graph.now c.args.group.now level done =
    rw (i.graph, i.members, i.keeping, ← c.level-level.ensures.level) at first in
    rw (i.graph, i.members, i.keeping, ← c.level-level.ensures.level)
    (c.in_ok-hauls.ensures.tried level done known numbers)

pub returns-in-Enough : goal.returns-in-Enough
returns-in-Enough g c =
    let i = c.loop-levels.invariant in
    let hauls = c.in-Enough.hauls.items in
    let enough : SufficeKeeping c.loop-levels.levels.keeping c.loop-levels.levels.search.graph
    c.loop-levels.levels.search.members hauls =
    subst (IsSearched c.loop-levels.levels) c.in-Enough.is c.in_ok-hauls-2.ensures in
    rw (i.graph, i.members, i.keeping, c.keeping-keeping.ensures) at enough
