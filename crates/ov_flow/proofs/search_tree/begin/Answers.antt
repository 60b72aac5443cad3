-- The source is the first node that is reached.
use Rattle.std.proofs.Common.{◌∙◌, ℕ, List, [], ◌∷◌, ◌++◌, Option, None, ap}
use Rattle.ov_split.specs.Places.{net_by_place}
use Rattle.ov_flow.proofs.Reaching.{grown_first}
use Rattle.ov_flow.proofs.search_tree.begin.Goals as goal

pub returns-clause-grown : goal.returns-clause-grown
returns-clause-grown g c from =
    let n = net_by_place c.args.net.now in
    let s = c.source-source.result in
    rw (
      c.push_reserved.ensures.items ∙ ap (λ (l : List ℕ). l ++ s ∷ []) c.clear.ensures.items,
      c.push_reserved-2.ensures.items ∙ ap (λ (l : List ℕ). l ++ 0 ∷ []) c.clear-2.ensures.items,
      c.push_reserved-3.ensures.items ∙ ap (λ (l : List (Option ℕ)). l ++ None ∷ []) c.clear-3.ensures.items,
    )
    (grown_first n from c.put-2.new.row c.put.new.row c.avoided.result.now c.no_places-tree.result s
    ((c.requires.ready.placed.nodes s).1 c.source-source.ensures.below) c.source-source.ensures.place
    c.avoided.ensures.places
    c.no_places-tree.ensures c.put-2.ensures c.put.ensures)
