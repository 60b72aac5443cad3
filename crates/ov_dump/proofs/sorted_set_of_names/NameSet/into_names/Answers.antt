-- The keys, sorted, are the names in order.
use Rattle.std.proofs.Common.{◌≡◌, ◌∙◌, List, ℕ, rules, subst, sym}
use Rattle.std.specs.List.Sorted.{IsPermutation}
use Rattle.ov_ids.specs.Members.{Ordered}
use Rattle.ov_dump.specs.Names.{ComesBefore}
use Rattle.ov_dump.proofs.NameSets.{order_up, sorted_keys}
use Rattle.ov_dump.proofs.sorted_set_of_names.NameSet.into_names.Goals as goal

pub returns-clause-names : goal.returns-clause-names
returns-clause-names c =
    let keys = c.self.inside.names.keys in
    let sorted = c.sort_unstable.new.self.items in
    let all : c.in_ok-names.names.items ≡ keys = search rules in
    sorted_keys keys sorted c.into_iter.ensures.into_iter_gives.3
    (subst (λ (ks : List (List ℕ)). IsPermutation ks sorted) all c.sort_unstable.ensures.permutation)
    c.sort_unstable.ensures.sorted
    ∙ c.self.view_is

pub returns-clause-ordered : goal.returns-clause-ordered
returns-clause-ordered c =
    let keys = c.self.inside.names.keys in
    let sorted = c.sort_unstable.new.self.items in
    let all : c.in_ok-names.names.items ≡ keys = search rules in
    subst (Ordered ComesBefore)
    (sym (sorted_keys keys sorted c.into_iter.ensures.into_iter_gives.3
    (subst (λ (ks : List (List ℕ)). IsPermutation ks sorted) all c.sort_unstable.ensures.permutation)
    c.sort_unstable.ensures.sorted))
    (order_up keys)
