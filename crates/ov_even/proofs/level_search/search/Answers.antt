-- The haul of a level is handed to the search, which is one of the same graph and group.
use Rattle.std.proofs.Common.{ap, sym, subst, length, arith}
use Rattle.ov_even.specs.Hauls.{AreRight, SufficeKeeping}
use Rattle.ov_even.specs.Levels.{KeepingSearch, IsTried}
use Rattle.ov_even.specs.Searching.{IsSearched}
use Rattle.ov_even.proofs.AnalysisSteps.Narrowing.{members_few, right_of_one, tried_of_one}
use Rattle.ov_even.proofs.level_search.search.Goals as goal

pub try_level-requires-clause-few : goal.try_level-requires-clause-few
try_level-requires-clause-few g c =
    let few = members_few c.args.graph.now c.args.group.now c.requires.group in
    let within = c.level-level.ensures.within in
    let same = ap (λ x. length x.nodes) c.loop-levels.invariant.graph in
    let is = ap (λ (s : KeepingSearch). length s.search.graph.nodes) c.levels.view_is in
    omega (arith, few, within, same, is)

pub take-requires-clause-right : goal.take-requires-clause-right
take-requires-clause-right g c =
    let l = c.loop-levels in
    let hauls = c.in_ok-vec.field-0.items in
    subst (λ (s : KeepingSearch). AreRight s.search.graph s.search.members hauls) (sym c.levels.view_is)
    (right_of_one l.settler c.args.graph.now c.args.group.now l.levels.search c.in_ok-haul.haul hauls
    l.invariant.settler l.invariant.graph l.invariant.members c.in_ok-vec.ensures.items c.in_ok-haul.ensures.right)

pub take-requires-clause-tried : goal.take-requires-clause-tried
take-requires-clause-tried g c =
    let l = c.loop-levels in
    let hauls = c.in_ok-vec.field-0.items in
    subst (λ (s : KeepingSearch). IsTried s.keeping s.search.graph s.search.members hauls s.search.level)
    (sym c.levels.view_is)
    (tried_of_one c.keeping-keeping.result l.settler c.args.graph.now c.args.group.now l.levels c.in_ok-haul.haul hauls
    c.level-level.result l.invariant.settler l.invariant.graph l.invariant.members l.invariant.keeping
    c.in_ok-vec.ensures.items c.level-level.ensures.level c.in_ok-haul.ensures.tried)

pub returns-in-Enough : goal.returns-in-Enough
returns-in-Enough g c =
    let l = c.loop-levels in
    let hauls = c.in-Enough.hauls.items in
    let s : KeepingSearch = record { search = c.levels.inside.bounds.search; keeping = c.levels.inside.keeping } in
    let enough = subst (IsSearched s) c.in-Enough.is c.in_ok-hauls.ensures in
    let own = subst (λ (x : KeepingSearch). SufficeKeeping x.keeping x.search.graph x.search.members hauls)
    c.levels.view_is enough in
    rw (l.invariant.graph, l.invariant.members, l.invariant.keeping, c.keeping-keeping.ensures) at own
