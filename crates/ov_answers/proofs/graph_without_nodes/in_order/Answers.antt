-- The sort moves ids alone, and leaves them in order.
use Rattle.std.proofs.Common.{ℕ, List, subst, sym}
use Rattle.std.proofs.lemmas.List.Sorted.{Contains-permutation, IsNonDecreasingBy-from_sort, IsPermutation-sym}
use Rattle.ov_ids.specs.Members.{Has}
use Rattle.ov_answers.proofs.Left.{contains_has, has_contains}
use Rattle.ov_answers.proofs.graph_without_nodes.in_order.Goals as goal

pub returns-clause-rising : goal.returns-clause-rising
returns-clause-rising c =
    IsNonDecreasingBy-from_sort (λ x. x) c.sort_unstable.new.self.items c.sort_unstable.ensures.sorted

pub returns-clause-same : goal.returns-clause-same
returns-clause-same c x =
    let before = c.in_ok-ordered.ordered.items in
    let after = c.sort_unstable.new.self.items in
    let moved = c.sort_unstable.ensures.permutation in (
      (λ h. subst (λ (xs : List ℕ). Has xs x) c.in_ok-ordered.ensures.items (contains_has before x
          (Contains-permutation after before x (IsPermutation-sym before after moved) (has_contains after x h)))),
      (λ h. contains_has after x (Contains-permutation before after x moved
          (has_contains before x (subst (λ (xs : List ℕ). Has xs x) (sym c.in_ok-ordered.ensures.items) h)))),
    )
