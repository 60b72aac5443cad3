use Rattle.std.proofs.Common.{List, ℕ, [], sym, subst}
use Rattle.ov_graph.specs.Code.Listed.{AreListed}
use Rattle.ov_graph.proofs.PlaceLists.Growing.{none_listed}
use Rattle.ov_graph.proofs.place_lists_from_links.lists_of.Goals as goal

pub list_all_links-requires-clause-none : goal.list_all_links-requires-clause-none
list_all_links-requires-clause-none c =
    subst (λ (lists : List (List ℕ)). AreListed c.args.nodes.now [] lists) (sym c.deref_mut.ensures.value)
    (none_listed c.args.nodes.now c.in_ok-lists.lists.items c.in_ok-lists.ensures.count c.in_ok-lists.ensures.empty)
